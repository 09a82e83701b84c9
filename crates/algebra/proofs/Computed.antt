-- What the calls of this crate returned, as numbers of 128 bits. Assumes nothing.
use Rattle.std.proofs.Common.{◌≡◌, ℕ, ◌+◌, ◌*◌, ◌^◌, ◌<◌, ℤ, ◌*ℤ◌, ◌∙◌, ap₂, lit<, w32, w64, SFits}
use lib.Signed.{mag}
use mir.Syntax.{w128}
use Rattle.std.proofs.lemmas.Int.{to_z-of_z}
use Rattle.algebra.specs.declared.vector.Vector.{Vector}
use Rattle.algebra.specs.Plane.{dot}
use Rattle.algebra.specs.Sizes.{Bounded, Short}
use Rattle.algebra.proofs.Bounded.{Num, bitted, returned, cast, mul_bounded, add_bounded}

-- `i128::from(product(a, b))`
pub product_num : {p r : ℤ} (a b : ℤ) → SFits w32 a → SFits w32 b → mag p < 2 ^ 63 → p ≡ bitted w32 a *ℤ bitted w32 b → r ≡ bitted w64 p → Num (bitted w128 r) (a *ℤ b) (2 ^ 63)
product_num a b fa fb h e same =
    let p = returned w64 h (e ∙ ap₂ ◌*ℤ◌ (to_z-of_z w32 a fa) (to_z-of_z w32 b fb)) in
    cast w128 (record { is = same ∙ p.is; size = p.size }) (lit< tt)

pub dot_bounded : {a b : ℕ} (x y : Vector) → Short a x → Short b y → Bounded (a * b + a * b) (dot x y)
dot_bounded {a} {b} x y h k =
    add_bounded (mul_bounded a b x.u y.u h.0 k.0) (mul_bounded a b x.v y.v h.1 k.1)

-- `x.dot(y)`
pub dot_num : (a b : ℕ) {r : ℤ} (x y : Vector) → Short a x → Short b y → r ≡ dot x y → a * b + a * b < 2 ^ 127 → Num (bitted w128 r) (dot x y) (a * b + a * b)
dot_num a b x y h k e l = cast w128 (record { is = e; size = dot_bounded x y h k }) l
