use Rattle.std.proofs.Common.{ap, ◌∙◌, rules, tests}
use Rattle.std.proofs.lemmas.Iterator.Consumers.{YieldsList-from_first, YieldsList-from_enumerate}
use Rattle.std.proofs.lemmas.Iterator.Search.{all_from_yields_List}
use Rattle.reading.specs.Lines.{placed, placed_line, lines_left}
use Rattle.reading.proofs.Lined.{fits, all_fit}
use Rattle.reading.proofs.lines.each_fits.Goals as goal

pub returns : goal.returns
returns c =
    let s = c.args.text.now in
    let lines = YieldsList-from_first placed_line lines_left (placed s) (ap lines_left c.enumerate.ensures.source ∙ c.of.ensures.value) in
    record { value = all_from_yields_List fits c.all.new.self _ c.all.result c.all.ensures.ran (YieldsList-from_enumerate lines c.enumerate.ensures.count) (λ x b q k. search (rules, tests)) ∙ all_fit s }
