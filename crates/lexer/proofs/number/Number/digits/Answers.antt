use Rattle.std.proofs.Common.{◌≡◌, ◌^◌, ◌≤◌, length, arith, lit<}
use Rattle.std.proofs.lemmas.Grind.{common_steps}
use native.Mathlib.Nat.{pow-le-pow_right}
use Rattle.lexer.specs.Numbers.{value_of}
use Rattle.lexer.proofs.number.Number.digits.Goals as goal

pub returns : goal.returns
returns c =
    let few : length c.args.self.whole.now ≤ 7 = omega arith in
    let p : 10 ^ length c.args.self.whole.now ≤ 10 ^ 7 = pow-le-pow_right {n = 10} (lit< tt) few in
    let e : c.value.result ≡ value_of c.args.self.whole.now = omega (arith, p) in
    grind (arith, common_steps, e)
