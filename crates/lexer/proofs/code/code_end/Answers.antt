use Rattle.std.proofs.Common.{drop, rules, tests, ap, ◌+◌}
use Rattle.std.proofs.lemmas.Iterator.{YieldsList-from_slice}
use Rattle.lexer.specs.Bytes.{in_code}
use Rattle.lexer.proofs.Lengths.{run_counted}
use Rattle.lexer.proofs.code.code_end.Goals as goal

pub returns : goal.returns
returns c =
    let from = c.args.from in
    record { value = ap (λ n. from + n) (run_counted _ in_code c.take_while.result (YieldsList-from_slice (drop from c.args.line.now) cc) c.take_while.ensures.closure c.take_while.ensures.done c.count.ensures.ran (λ x b q k. search (rules, tests))) }
