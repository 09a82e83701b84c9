-- Lines and rapids against a half space. Assumes nothing.
use Rattle.std.proofs.Common.{◌≡◌, ℕ, ◌-◌, ◌<◌, ◌≤◌, Bool, true, false, cond, ◌&&◌, [], ◌∷◌, ℤ, pos, ◌+ℤ◌, ◌-ℤ◌, ◌*ℤ◌, ◌≤ℤ◌, ◌<ℤ◌, MatchBool, refl, ap, ◌∙◌, arith, lit<, lit≤}
use lib.Signed.{lt_z, le_z}
use Rattle.std.specs.Int.{int_max, int_min}
use Rattle.std.proofs.lemmas.Int.{ints, clamps}
use Rattle.algebra.proofs.Polynomials.{num, var, ◌⊕◌, ◌⊖◌, ◌⊗◌, identity}
use Rattle.algebra.proofs.Products.{≡-≤, ≤-≡, mul-≤, cancel-≤}
use Rattle.algebra.proofs.Tests.{at_most, and_told}
use Rattle.motions.specs.declared.axes.Axis.TheVariants.{X, Y, Z}
use Rattle.motions.specs.declared.axes.Axes.{Axes}
use Rattle.motions.specs.Axes.{coordinate}
use Rattle.geometry.specs.Points.{Point, place}
use Rattle.geometry.specs.Paths.{OnLine, Between, OnRapid}
use Rattle.geometry.specs.Areas.{rise, InEdge}
use Rattle.geometry.specs.Deciding.{higher, corner}

-- every point of a path in the half space, or one that is not
abbrev pub All : (Point → Type 0) → Axes ℤ → ℤ → Type 0
All P n d = (p : Point) → P p → InEdge n d p

abbrev pub Some : (Point → Type 0) → Axes ℤ → ℤ → Type 0
Some P n d = (p : Point) × P p × (InEdge n d p → ⊥)

-- a denominator as a number above 0
pub above : (k : ℕ) → 0 < k → pos 0 <ℤ pos k
above k h = omega (arith, ints)

-- a position beyond
beyond : (n s : Axes ℤ) (d : ℤ) → d <ℤ rise n s → InEdge n d (place s) → ⊥
beyond n s d h k = go d h k
  where
    go : (d : ℤ) {r : ℤ} → d <ℤ r → r ≤ℤ (d *ℤ pos 1) → ⊥
    go d {r} h k = omega (arith, ints)

-- ---- lines
blend : (a b d : ℤ) (k r : ℕ) → a ≤ℤ d → b ≤ℤ d → k ≤ r → (pos r *ℤ a +ℤ pos k *ℤ (b -ℤ a)) ≤ℤ (pos r *ℤ d)
blend a b d k r ha hb hk =
    go (mul-≤ (pos (r - k)) (omega (arith, ints)) ha) (mul-≤ (pos k) (omega (arith, ints)) hb)
    (ap (λ (z : ℤ). z *ℤ a +ℤ pos k *ℤ (b -ℤ a)) split ∙ identity (a ∷ b ∷ pos k ∷ pos (r - k) ∷ []) ((var 2 ⊕ var 3) ⊗ var 0 ⊕ var 2 ⊗ (var 1 ⊖ var 0)) (var 3 ⊗ var 0 ⊕ var 2 ⊗ var 1) tt)
    (ap (λ (z : ℤ). z *ℤ d) split ∙ identity (d ∷ pos k ∷ pos (r - k) ∷ []) ((var 1 ⊕ var 2) ⊗ var 0) (var 2 ⊗ var 0 ⊕ var 1 ⊗ var 0) tt)
  where
    split : pos r ≡ pos k +ℤ pos (r - k)
    split = omega (arith, ints)

    go : {x y z w l m : ℤ} → x ≤ℤ y → z ≤ℤ w → l ≡ x +ℤ z → m ≡ y +ℤ w → l ≤ℤ m
    go {x} {y} {z} {w} {l} {m} p q e f = omega (arith, ints)

line_rise : (s e n : Axes ℤ) (p : Point) (o : OnLine s e p) → pos o.parts *ℤ rise n p.numerators ≡ pos p.denominator *ℤ (pos o.parts *ℤ rise n s +ℤ pos o.part *ℤ (rise n e -ℤ rise n s))
line_rise s e n p o =
    identity (pos o.parts ∷ n.x ∷ n.y ∷ n.z ∷ p.numerators.x ∷ p.numerators.y ∷ p.numerators.z ∷ [])
    (var 0 ⊗ (var 1 ⊗ var 4 ⊕ var 2 ⊗ var 5 ⊕ var 3 ⊗ var 6)) (var 1 ⊗ (var 0 ⊗ var 4) ⊕ var 2 ⊗ (var 0 ⊗ var 5) ⊕ var 3 ⊗ (var 0 ⊗ var 6)) tt
    ∙ (λ i. n.x *ℤ o.at X i +ℤ n.y *ℤ o.at Y i +ℤ n.z *ℤ o.at Z i)
    ∙ identity (n.x ∷ n.y ∷ n.z ∷ s.x ∷ s.y ∷ s.z ∷ e.x ∷ e.y ∷ e.z ∷ pos p.denominator ∷ pos o.parts ∷ pos o.part ∷ [])
    (var 0 ⊗ (var 9 ⊗ (var 10 ⊗ var 3 ⊕ var 11 ⊗ (var 6 ⊖ var 3))) ⊕ var 1 ⊗ (var 9 ⊗ (var 10 ⊗ var 4 ⊕ var 11 ⊗ (var 7 ⊖ var 4))) ⊕ var 2 ⊗ (var 9 ⊗ (var 10 ⊗ var 5 ⊕ var 11 ⊗ (var 8 ⊖ var 5))))
    (var 9 ⊗ (var 10 ⊗ (var 0 ⊗ var 3 ⊕ var 1 ⊗ var 4 ⊕ var 2 ⊗ var 5) ⊕ var 11 ⊗ ((var 0 ⊗ var 6 ⊕ var 1 ⊗ var 7 ⊕ var 2 ⊗ var 8) ⊖ (var 0 ⊗ var 3 ⊕ var 1 ⊗ var 4 ⊕ var 2 ⊗ var 5)))) tt

line_in : (s e n : Axes ℤ) (d : ℤ) → rise n s ≤ℤ d → rise n e ≤ℤ d → All (OnLine s e) n d
line_in s e n d hs he p o =
    cancel-≤ (pos o.parts) (rise n p.numerators) (d *ℤ pos p.denominator) (above o.parts o.some)
    (≡-≤ (line_rise s e n p o) (≤-≡ (mul-≤ (pos p.denominator) (omega (arith, ints)) (blend (rise n s) (rise n e) d o.part o.parts hs he o.up_to)) (identity (pos p.denominator ∷ pos o.parts ∷ d ∷ []) (var 0 ⊗ (var 1 ⊗ var 2)) (var 1 ⊗ (var 2 ⊗ var 0)) tt)))

starts : (a b : ℤ) → pos 1 *ℤ a ≡ pos 1 *ℤ (pos 1 *ℤ a +ℤ pos 0 *ℤ (b -ℤ a))
starts a b = identity (a ∷ b ∷ []) (num (pos 1) ⊗ var 0) (num (pos 1) ⊗ (num (pos 1) ⊗ var 0 ⊕ num (pos 0) ⊗ (var 1 ⊖ var 0))) tt

ends : (a b : ℤ) → pos 1 *ℤ b ≡ pos 1 *ℤ (pos 1 *ℤ a +ℤ pos 1 *ℤ (b -ℤ a))
ends a b = identity (a ∷ b ∷ []) (num (pos 1) ⊗ var 1) (num (pos 1) ⊗ (num (pos 1) ⊗ var 0 ⊕ num (pos 1) ⊗ (var 1 ⊖ var 0))) tt

start_on : (s e : Axes ℤ) → OnLine s e (place s)
start_on s e = record { part = 0; parts = 1; some = lit< tt; up_to = lit≤ tt; at = λ a. starts (coordinate a s) (coordinate a e) }

end_on : (s e : Axes ℤ) → OnLine s e (place e)
end_on s e = record { part = 1; parts = 1; some = lit< tt; up_to = lit≤ tt; at = λ a. ends (coordinate a s) (coordinate a e) }

pub line_told : (s e n : Axes ℤ) (d : ℤ) → MatchBool (le_z (rise n s) d && le_z (rise n e) d) (All (OnLine s e) n d) (Some (OnLine s e) n d)
line_told s e n d =
    and_told (All (OnLine s e) n d) (Some (OnLine s e) n d) (rise n s ≤ℤ d) (le_z (rise n s) d) (le_z (rise n e) d)
    (at_most _ _ (rise n s) d (λ h. h) (λ h. (place s, start_on s e, beyond n s d h)))
    (λ hs. at_most _ _ (rise n e) d (λ he. line_in s e n d hs he) (λ h. (place e, end_on s e, beyond n e d h)))

-- ---- rapids
one_axis : (k a b z : ℤ) (q : ℕ) → Between a b z q → (k *ℤ z) ≤ℤ (pos q *ℤ (k *ℤ higher k a b))
one_axis k a b z q h = go (lt_z (pos 0) k) refl
  where
    order : (m : ℤ) → k *ℤ (m *ℤ pos q) ≡ pos q *ℤ (k *ℤ m)
    order m = identity (k ∷ m ∷ pos q ∷ []) (var 0 ⊗ (var 1 ⊗ var 2)) (var 2 ⊗ (var 0 ⊗ var 1)) tt

    minus : (y : ℤ) → (pos 0 -ℤ k) *ℤ y ≡ pos 0 -ℤ k *ℤ y
    minus y = identity (k ∷ y ∷ []) ((num (pos 0) ⊖ var 0) ⊗ var 1) (num (pos 0) ⊖ var 0 ⊗ var 1) tt

    flip : (u v : ℤ) {x y : ℤ} → x ≤ℤ y → x ≡ pos 0 -ℤ u → y ≡ pos 0 -ℤ v → v ≤ℤ u
    flip u v {x} {y} l e f = omega (arith, ints)

    go : (t : Bool) → lt_z (pos 0) k ≡ t → (k *ℤ z) ≤ℤ (pos q *ℤ (k *ℤ cond t (int_max a b) (int_min a b)))
    go true e = ≤-≡ (mul-≤ k (omega (arith, ints)) h.high) (order (int_max a b))
    go false e =
        ≤-≡ (flip (k *ℤ (int_min a b *ℤ pos q)) (k *ℤ z) (mul-≤ (pos 0 -ℤ k) (omega (arith, ints)) h.low) (minus (int_min a b *ℤ pos q)) (minus z)) (order (int_min a b))

rapid_in : (s e n : Axes ℤ) (d : ℤ) → rise n (corner n s e) ≤ℤ d → All (OnRapid s e) n d
rapid_in s e n d h p on =
    go (one_axis n.x s.x e.x p.numerators.x p.denominator (on X)) (one_axis n.y s.y e.y p.numerators.y p.denominator (on Y)) (one_axis n.z s.z e.z p.numerators.z p.denominator (on Z)) (mul-≤ (pos p.denominator) (omega (arith, ints)) h)
    (identity ((n.x *ℤ higher n.x s.x e.x) ∷ (n.y *ℤ higher n.y s.y e.y) ∷ (n.z *ℤ higher n.z s.z e.z) ∷ pos p.denominator ∷ []) (var 3 ⊗ (var 0 ⊕ var 1 ⊕ var 2)) (var 3 ⊗ var 0 ⊕ var 3 ⊗ var 1 ⊕ var 3 ⊗ var 2) tt)
    (identity (d ∷ pos p.denominator ∷ []) (var 1 ⊗ var 0) (var 0 ⊗ var 1) tt)
  where
    go : {x a y b z c l m r : ℤ} → x ≤ℤ a → y ≤ℤ b → z ≤ℤ c → l ≤ℤ m → l ≡ a +ℤ b +ℤ c → m ≡ r → (x +ℤ y +ℤ z) ≤ℤ r
    go {x} {a} {y} {b} {z} {c} {l} {m} {r} h i j k e f = omega (arith, ints)

higher_between : (k a b : ℤ) → Between a b (higher k a b) 1
higher_between k a b = go (lt_z (pos 0) k)
  where
    go : (t : Bool) → Between a b (cond t (int_max a b) (int_min a b)) 1
    go true = record { low = omega (arith, ints, clamps); high = omega (arith, ints) }
    go false = record { low = omega (arith, ints); high = omega (arith, ints, clamps) }

corner_on : (n s e : Axes ℤ) → OnRapid s e (place (corner n s e))
corner_on n s e X = higher_between n.x s.x e.x
corner_on n s e Y = higher_between n.y s.y e.y
corner_on n s e Z = higher_between n.z s.z e.z

pub rapid_told : (s e n : Axes ℤ) (d : ℤ) → MatchBool (le_z (rise n (corner n s e)) d) (All (OnRapid s e) n d) (Some (OnRapid s e) n d)
rapid_told s e n d =
    at_most _ _ (rise n (corner n s e)) d (λ h. rapid_in s e n d h) (λ h. (place (corner n s e), corner_on n s e, beyond n (corner n s e) d h))
