-- Vectors of a plane, arcs about its origin, and half planes n·x ≤ d. Assumes nothing.
--     dot a b, cross a b     the inner product, and the signed area that a and b span
--     a − b, scaled k a      difference and multiple
--     OnArc s e x w          the point x / w lies on the arc from s to e, counterclockwise about the origin
--     Within s e n d         every point of that arc lies in the half plane
--     Beyond s e n d         some point of it does not
--     stays s e n d          the test that tells them apart, on whole numbers alone
--     side s e n d           its last number: its sign tells on which side of the chord the mirrored point lies
use Rattle.std.specs.Prelude.{◌≡◌, Bool, true, false, cond, ℤ, pos, ◌+ℤ◌, ◌-ℤ◌, ◌*ℤ◌, ◌≤ℤ◌, ◌<ℤ◌, int_lt}
use Rattle.algebra.specs.declared.vector.Vector.{Vector}

abbrev pub dot : Vector → Vector → ℤ
dot a b = a.u *ℤ b.u +ℤ a.v *ℤ b.v

abbrev pub cross : Vector → Vector → ℤ
cross a b = a.u *ℤ b.v -ℤ a.v *ℤ b.u

abbrev pub ◌−◌ : Vector → Vector → Vector
a − b = record { u = a.u -ℤ b.u; v = a.v -ℤ b.v }

infixl 60 ◌−◌
abbrev pub scaled : ℤ → Vector → Vector
scaled k a = record { u = k *ℤ a.u; v = k *ℤ a.v }

-- as far from the origin as s, and not left of the way from s to e; where s is e, that is the whole circle
pub record OnArc (s e x : Vector) (w : ℤ) : Type 0 where
  pub whole : pos 0 <ℤ w
  pub round : dot x x ≡ (w *ℤ w) *ℤ dot s s
  pub side : cross (e − s) (x − scaled w s) ≤ℤ pos 0

abbrev pub Within : Vector → Vector → Vector → ℤ → Type 0
Within s e n d = (x : Vector) (w : ℤ) → OnArc s e x w → dot n x ≤ℤ (d *ℤ w)

abbrev pub Beyond : Vector → Vector → Vector → ℤ → Type 0
Beyond s e n d = (x : Vector) × (w : ℤ) × OnArc s e x w × ((d *ℤ w) <ℤ dot n x)

-- with R = s·s, N = n·n, c = n·s, and m and g what e has more than s along s and along n:
-- (K + (d − c)·N)·m + (K + (d − c)·R)·g where K = R·N − d·c
abbrev pub side_of : ℤ → ℤ → ℤ → ℤ → ℤ → ℤ → ℤ
side_of R N c d m g =
    ((R *ℤ N -ℤ d *ℤ c) +ℤ (d -ℤ c) *ℤ N) *ℤ m +ℤ ((R *ℤ N -ℤ d *ℤ c) +ℤ (d -ℤ c) *ℤ R) *ℤ g

abbrev pub side : Vector → Vector → Vector → ℤ → ℤ
side s e n d = side_of (dot s s) (dot n n) (dot n s) d (dot e s -ℤ dot s s) (dot n e -ℤ dot n s)

-- no where an end is beyond. Then, where the point opposite to s is beyond: whether that lies off the arc. Then, where
-- the line n·x = d meets the circle: whether a certain point beyond it lies off the arc. Else no point is beyond
abbrev pub stays : Vector → Vector → Vector → ℤ → Bool
stays s e n d =
    cond (int_lt d (dot n s)) false
    (cond (int_lt d (dot n e)) false
    (cond (int_lt (dot n s +ℤ d) (pos 0)) (int_lt (pos 0) (cross s e))
    (cond (int_lt (d *ℤ d) (dot s s *ℤ dot n n)) (int_lt (pos 0) (cross s n *ℤ side s e n d)) true)))
