use Rattle.std.proofs.Common.{◌≡◌, ◌+◌, ◌^◌, ℤ, ◌-ℤ◌, ap, ◌∙◌, lit<, w32, SFits, rules}
use mir.Syntax.{w128}
use Rattle.algebra.specs.declared.vector.Vector.{Vector}
use Rattle.algebra.specs.Plane.{dot, ◌−◌}
use Rattle.algebra.proofs.Bounded.{Num, bitted, whole, cast, mul, add, sub, mul_fits, add_fits}
use Rattle.motions.proofs.row.Arc.square.Goals as goal

-- a component of the arm, as the code computes it from the two widened numbers
apart : (a b r s : ℤ) → SFits w32 a → SFits w32 b → r ≡ bitted w32 a → s ≡ bitted w32 b → Num (bitted w128 (bitted w128 r -ℤ bitted w128 s)) (a -ℤ b) (2 ^ 31 + 2 ^ 31)
apart a b r s fa fb e f =
    let x : Num r a (2 ^ 31) = record { is = e ∙ (whole w32 a fa).is; size = (whole w32 a fa).size } in
    let y : Num s b (2 ^ 31) = record { is = f ∙ (whole w32 b fb).is; size = (whole w32 b fb).size } in
    sub w128 (cast w128 x (lit< tt)) (cast w128 y (lit< tt)) (lit< tt)

pub overflow_mul-result : goal.overflow_mul-result
overflow_mul-result c =
    let u = apart c.flat-at.result.u c.args.self.now.centre.u _ _ (search rules) (search rules) c.from.ensures c.from-2.ensures in mul_fits w128 u u (lit< tt)

pub overflow_mul-result-2 : goal.overflow_mul-result-2
overflow_mul-result-2 c =
    let v = apart c.flat-at.result.v c.args.self.now.centre.v _ _ (search rules) (search rules) c.from-3.ensures c.from-4.ensures in mul_fits w128 v v (lit< tt)

pub overflow_add-result : goal.overflow_add-result
overflow_add-result c =
    let u = apart c.flat-at.result.u c.args.self.now.centre.u _ _ (search rules) (search rules) c.from.ensures c.from-2.ensures in
    let v = apart c.flat-at.result.v c.args.self.now.centre.v _ _ (search rules) (search rules) c.from-3.ensures c.from-4.ensures in
    add_fits w128 (mul w128 u u (lit< tt)) (mul w128 v v (lit< tt)) (lit< tt)

pub returns : goal.returns
returns c =
    let u = apart c.flat-at.result.u c.args.self.now.centre.u _ _ (search rules) (search rules) c.from.ensures c.from-2.ensures in
    let v = apart c.flat-at.result.v c.args.self.now.centre.v _ _ (search rules) (search rules) c.from-3.ensures c.from-4.ensures in
    let middle = c.args.self.now.centre in
    record { value = (add w128 (mul w128 u u (lit< tt)) (mul w128 v v (lit< tt)) (lit< tt)).is ∙ ap (λ (at : Vector). dot (at − middle) (at − middle)) c.flat-at.ensures.value }
