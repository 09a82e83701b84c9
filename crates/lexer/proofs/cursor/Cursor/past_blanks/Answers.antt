use Rattle.std.proofs.Common.{drop, rules, tests, ap, ◌+◌}
use Rattle.std.proofs.lemmas.Iterator.{YieldsList-from_slice}
use Rattle.lexer.specs.Bytes.{is_blank}
use Rattle.lexer.proofs.Lengths.{run_counted}
use Rattle.lexer.proofs.cursor.Cursor.past_blanks.Goals as goal

pub returns-clause-at : goal.returns-clause-at
returns-clause-at c =
    let here = c.args.self in
    ap (λ n. here.at + n) (run_counted _ is_blank c.take_while.result (YieldsList-from_slice (drop here.at here.line.now) cc) c.take_while.ensures.closure c.take_while.ensures.done c.count-blanks.ensures.ran (λ x b q k. search (rules, tests)))
