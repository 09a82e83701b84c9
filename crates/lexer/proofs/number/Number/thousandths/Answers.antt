use Rattle.std.proofs.Common.{◌≡◌, ◌^◌, ◌≤◌, length, arith, lit<}
use Rattle.std.proofs.lemmas.Grind.{common_steps}
use native.Mathlib.Nat.{pow-le-pow_right}
use Rattle.lexer.specs.Numbers.{value_of, part_digits}
use Rattle.lexer.specs.Model.{part_is}
use Rattle.lexer.proofs.number.Number.thousandths.Goals as goal

pub returns : goal.returns
returns c =
    let w = c.args.self.whole.now in
    let ds = c.unwrap_or-part.result.now in
    let few : length w ≤ 7 = omega arith in
    let p : 10 ^ length w ≤ 10 ^ 7 = pow-le-pow_right {n = 10} (lit< tt) few in
    let e : c.value.result ≡ value_of w = omega (arith, p) in
    let less : length ds ≤ 3 = omega arith in
    let q : 10 ^ length ds ≤ 10 ^ 3 = pow-le-pow_right {n = 10} (lit< tt) less in
    let f : c.value-2.result ≡ value_of ds = omega (arith, q) in
    let g : ds ≡ part_digits (part_is c.args.self.part) = grind (arith, common_steps) in
    grind (arith, common_steps, e, f, g)
