use Rattle.std.proofs.Common.{◌≡◌, ◌^◌, ◌<◌, ℤ, ◌∙◌, w32, SFits, rules}
use lib.Signed.{mag}
use Rattle.std.proofs.lemmas.Int.{to_z-of_z}
use Rattle.algebra.proofs.Bounded.{bitted}
use Rattle.motions.specs.declared.axes.Axes.{Axes}
use Rattle.geometry.specs.Deciding.{higher}
use Rattle.geometry.proofs.edge.asking.corner.Goals as goal

one : {r : ℤ} (k a b : ℤ) → SFits w32 k → SFits w32 a → SFits w32 b → mag r < 2 ^ 31 → r ≡ higher (bitted w32 k) (bitted w32 a) (bitted w32 b) → bitted w32 r ≡ higher k a b
one {r} k a b fk fa fb h e =
    to_z-of_z w32 r (record { sfits = h }) ∙ e ∙ (λ i. higher (to_z-of_z w32 k fk i) (to_z-of_z w32 a fa i) (to_z-of_z w32 b fb i))

three : {x y z u v w : ℤ} → x ≡ u → y ≡ v → z ≡ w → ◌≡◌ {A = Axes ℤ} (record { x = x; y = y; z = z }) (record { x = u; y = v; z = w })
three p q r i = record { x = p i; y = q i; z = r i }

pub returns : goal.returns
returns c =
    let n = c.args.normal.now in
    let s = c.args.start.now in
    let e = c.args.end.now in
    record {
      value = three
          (one n.x s.x e.x (search rules) (search rules) (search rules) c.higher.type_inv c.higher.ensures.value)
          (one n.y s.y e.y (search rules) (search rules) (search rules) c.higher-2.type_inv c.higher-2.ensures.value)
          (one n.z s.z e.z (search rules) (search rules) (search rules) c.higher-3.type_inv c.higher-3.ensures.value);
    }
