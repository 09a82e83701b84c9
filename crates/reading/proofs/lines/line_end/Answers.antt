use Rattle.std.proofs.Common.{drop, arith, rules, tests}
use Rattle.std.proofs.lemmas.Iterator.{YieldsList-from_slice}
use Rattle.std.proofs.lemmas.Iterator.Consumers.{count_from_yields_List}
use Rattle.std.proofs.lemmas.Iterator.Search.{YieldsList-from_take_while}
use Rattle.std.proofs.lemmas.List.Folds.{length-prefix_len}
use Rattle.std.proofs.lemmas.List.Sums.{prefix_len-le-length}
use Rattle.std.proofs.lemmas.List.{length-drop}
use Rattle.reading.specs.Lines.{in_line}
use Rattle.reading.proofs.lines.line_end.Goals as goal

pub returns : goal.returns
returns c =
    let n = count_from_yields_List c.take_while.result c.count.result c.count.ensures.ran (YieldsList-from_take_while _ in_line (YieldsList-from_slice (drop c.args.from c.args.text.now) cc) c.take_while.ensures.closure c.take_while.ensures.done (λ x b q k. search (rules, tests))) in
    let rest = drop c.args.from c.args.text.now in
    record {
      value = omega (arith, n, length-prefix_len in_line rest);
      low = omega arith;
      inside = λ h. omega (arith, n, h, length-prefix_len in_line rest, prefix_len-le-length in_line rest, length-drop c.args.from c.args.text.now);
    }
