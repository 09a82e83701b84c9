use Rattle.std.proofs.Common.{◌≡◌, rules, tests, arith, ap, ◌∙◌, get_or, map, take}
use Rattle.std.specs.Char.{to_ascii_lowercase}
use Rattle.std.specs.List.{prefix_len}
use Rattle.std.proofs.lemmas.Grind.{common_steps}
use Rattle.std.proofs.lemmas.Iterator.{YieldsList-from_slice}
use Rattle.lexer.specs.Bytes.{is_blank, in_name}
use Rattle.lexer.specs.Tokens.{name}
use Rattle.lexer.proofs.Lengths.{run_counted}
use Rattle.lexer.proofs.cursor.name.Goals as goal

pub returns : goal.returns
returns c =
    let s = c.args.s.now in
    let n : c.count-n.result ≡ prefix_len in_name s = run_counted _ in_name c.take_while.result (YieldsList-from_slice s cc) c.take_while.ensures.closure c.take_while.ensures.done c.count-n.ensures.ran (λ x b q k. search (rules, tests)) in
    let shut : c.is_none_or.result ≡ is_blank (get_or s c.count-n.result 32) = grind (arith, common_steps) in
    record {
      value = λ j. name (map to_ascii_lowercase (take (n j) s)) c.args.place ((shut ∙ ap (λ k. is_blank (get_or s k 32)) n) j);
      bytes = ap (λ k. take k s) n;
    }
