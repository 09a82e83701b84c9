use Rattle.std.proofs.Common.{rules, tests, ap, take}
use Rattle.std.proofs.lemmas.Iterator.{YieldsList-from_slice}
use Rattle.lexer.specs.Digits.{is_digit}
use Rattle.lexer.proofs.Lengths.{run_counted}
use Rattle.lexer.proofs.number.digits.Goals as goal

pub returns : goal.returns
returns c =
    let s = c.args.s.now in
    record { value = ap (λ n. take n s) (run_counted _ is_digit c.take_while.result (YieldsList-from_slice s cc) c.take_while.ensures.closure c.take_while.ensures.done c.count-n.ensures.ran (λ x b q k. search (rules, tests))) }
