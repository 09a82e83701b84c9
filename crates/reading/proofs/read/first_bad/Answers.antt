use Rattle.std.proofs.Common.{◌+◌, sym, ap, ◌∙◌, rules, tests}
use Rattle.std.proofs.lemmas.Iterator.Consumers.{YieldsList-from_first}
use Rattle.std.proofs.lemmas.Iterator.Search.{position_from_yields_List}
use Rattle.std.specs.Option.{option_map}
use Rattle.reading.specs.Lines.{placed, placed_line, lines_left}
use Rattle.reading.specs.Reading.{formless}
use Rattle.reading.proofs.Telling.{first_is}
use Rattle.reading.proofs.read.first_bad.Goals as goal

pub returns-in_err-before : goal.returns-in_err-before
returns-in_err-before c =
    let s = c.args.text.now in
    let found = position_from_yields_List formless c.position.new.self _ c.position.result c.position.ensures.ran (YieldsList-from_first placed_line lines_left (placed s) c.of.ensures.value) (λ x b q k. search (rules, tests)) in
    record { value = c.from_residual.ensures ∙ ap (option_map (λ b. b + 1)) (sym c.in_err-before.was) ∙ first_is s c.position.result found }

pub returns : goal.returns
returns c =
    let s = c.args.text.now in
    let found = position_from_yields_List formless c.position.new.self _ c.position.result c.position.ensures.ran (YieldsList-from_first placed_line lines_left (placed s) c.of.ensures.value) (λ x b q k. search (rules, tests)) in
    record { value = ap (option_map (λ b. b + 1)) (sym c.in_ok-before.was) ∙ first_is s c.position.result found }
