use Rattle.std.proofs.Common.{◌≡◌, ℕ, ◌+◌, ◌-◌, ◌*◌, ◌^◌, ◌<◌, ◌≤◌, min, length, get_or, take, ap, ◌∙◌, subst, pow-suc, add-one, arith}
use Rattle.std.proofs.lemmas.List.Sums.{fold_more}
use Rattle.std.proofs.lemmas.List.{take_all}
use Rattle.lexer.specs.Numbers.{shifted, value_of}
use Rattle.lexer.proofs.number.value.Goals as goal

pub loop-b-preserved : goal.loop-b-preserved
loop-b-preserved c =
    let s = c.args.s.now in
    let i : ℕ = c.loop-b.b-index in
    let lt : i < length s = omega arith in
    let e : 10 ^ (i + 1) ≡ 10 ^ i * 10 = ap (λ k. 10 ^ k) (add-one i) ∙ pow-suc 10 i in
    let more : value_of (take (i + 1) s) ≡ value_of (take i s) * 10 + (get_or s i 0 - 48) = fold_more shifted 0 s i 0 lt in
    (omega (arith, more), omega (arith, e))

pub returns : goal.returns
returns c =
    let s = c.args.s.now in
    let e : c.loop-b.b-index ≡ length s = omega (arith, c.loop-b-test.false, c.loop-b.auto.b-index-end) in
    record {
      value = c.loop-b.invariant.0 ∙ ap (λ u. min (value_of u) 4294967295) (take_all c.loop-b.b-index s c.loop-b-test.false);
      bound = subst (λ k. c.loop-b.v + 23 ≤ 23 * 10 ^ k) e c.loop-b.invariant.1;
    }
