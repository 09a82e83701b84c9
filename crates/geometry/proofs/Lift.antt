-- An arc in space against a half space: seen in its plane, from its centre, it is an arc about the origin against a half plane. Assumes nothing.
--     view a p               p seen from the centre of a in the plane of a, times the denominator of p
--     by_plane, view_rise    what n rises to at p, by the plane's axes, and from the view
--     onto, off              a point of the arc in space is one of the arc in the plane, and back
--     lifted                 the point of space with a given view
use Rattle.std.proofs.Common.{◌≡◌, ℕ, zero, suc, ◌<◌, Bool, true, false, [], ◌∷◌, ℤ, pos, negsuc, ◌+ℤ◌, ◌-ℤ◌, ◌*ℤ◌, ◌≤ℤ◌, ◌<ℤ◌, MatchBool, sym, refl, ap, ◌∙◌, subst, subst₂, arith}
use Rattle.std.proofs.lemmas.Int.{ints}
use Rattle.std.proofs.lemmas.Bool.{and_parts}
use Rattle.algebra.specs.declared.vector.Vector.{Vector}
use Rattle.algebra.specs.Plane.{dot, cross, ◌−◌, scaled, OnArc as OnFlat, Within, Beyond, stays}
use Rattle.algebra.proofs.Polynomials.{var, ◌⊕◌, ◌⊖◌, ◌⊗◌, identity}
use Rattle.algebra.proofs.Products.{≡-≤}
use Rattle.algebra.proofs.Tests.{same_is}
use Rattle.algebra.proofs.Vectors.{cross_e, ◌−E◌, scaled_e, v₀, v₁, v₂, v₃}
use Rattle.algebra.proofs.Arc.{arc_told}
use Rattle.motions.specs.declared.axes.Axes.{Axes}
use Rattle.motions.specs.declared.axes.Plane.{Plane}
use Rattle.motions.specs.declared.axes.Plane.TheVariants.{XY, ZX, YZ}
use Rattle.motions.specs.declared.row.Turn.{Turn}
use Rattle.motions.specs.declared.row.Turn.TheVariants.{Counterclockwise, Clockwise}
use Rattle.motions.specs.declared.row.Arc.{Arc}
use Rattle.motions.specs.Axes.{coordinate, w_axis, flat}
use Rattle.motions.specs.Motions.{arm, square, level, closes}
use Rattle.geometry.specs.Points.{Point}
use Rattle.geometry.specs.Paths.{RightOf, OnTurn, OnArc}
use Rattle.geometry.specs.Areas.{rise}
use Rattle.geometry.specs.Deciding.{centre_rise, turn_stays}
use Rattle.geometry.proofs.Straight.{All, Some, above}

abbrev view : Arc → Point → Vector
view a p = flat a.plane p.numerators − scaled (pos p.denominator) a.centre

by_plane : (l : Plane) (n t : Axes ℤ) → rise n t ≡ dot (flat l n) (flat l t) +ℤ coordinate (w_axis l) n *ℤ coordinate (w_axis l) t
by_plane XY n t = refl
by_plane ZX n t = identity ((n.x *ℤ t.x) ∷ (n.y *ℤ t.y) ∷ (n.z *ℤ t.z) ∷ []) (var 0 ⊕ var 1 ⊕ var 2) ((var 2 ⊕ var 0) ⊕ var 1) tt
by_plane YZ n t = identity ((n.x *ℤ t.x) ∷ (n.y *ℤ t.y) ∷ (n.z *ℤ t.z) ∷ []) (var 0 ⊕ var 1 ⊕ var 2) ((var 1 ⊕ var 2) ⊕ var 0) tt

view_rise : (a : Arc) (s n : Axes ℤ) (p : Point) → level a p.numerators ≡ pos p.denominator *ℤ level a s → rise n p.numerators ≡ dot (flat a.plane n) (view a p) +ℤ centre_rise a s n *ℤ pos p.denominator
view_rise a s n p e =
    by_plane a.plane n p.numerators ∙ ap (λ (z : ℤ). dot (flat a.plane n) (flat a.plane p.numerators) +ℤ level a n *ℤ z) e
    ∙ identity ((flat a.plane n).u ∷ (flat a.plane n).v ∷ level a n ∷ (flat a.plane p.numerators).u ∷ (flat a.plane p.numerators).v ∷ level a s ∷ a.centre.u ∷ a.centre.v ∷ pos p.denominator ∷ [])
    ((var 0 ⊗ var 3 ⊕ var 1 ⊗ var 4) ⊕ var 2 ⊗ (var 8 ⊗ var 5))
    ((var 0 ⊗ (var 3 ⊖ var 8 ⊗ var 6) ⊕ var 1 ⊗ (var 4 ⊖ var 8 ⊗ var 7)) ⊕ ((var 0 ⊗ var 6 ⊕ var 1 ⊗ var 7) ⊕ var 2 ⊗ var 5) ⊗ var 8) tt

-- the side of the chord is the same from the centre
view_side : (c s e p : Vector) (q : ℤ) → cross ((e − c) − (s − c)) ((p − scaled q c) − scaled q (s − c)) ≡ cross (e − s) (p − scaled q s)
view_side c s e p q =
    identity (c.u ∷ c.v ∷ s.u ∷ s.v ∷ e.u ∷ e.v ∷ p.u ∷ p.v ∷ q ∷ [])
    (cross_e ((v₂ −E v₀) −E (v₁ −E v₀)) ((v₃ −E scaled_e (var 8) v₀) −E scaled_e (var 8) (v₁ −E v₀)))
    (cross_e (v₂ −E v₁) (v₃ −E scaled_e (var 8) v₁)) tt

-- by the way round
abbrev FlatOn : Turn → Vector → Vector → Vector → ℤ → Type 0
FlatOn Counterclockwise s e x w = OnFlat s e x w
FlatOn Clockwise s e x w = OnFlat e s x w

module _ (a : Arc) (s e : Axes ℤ) (round_e : square a s ≡ square a e) where
  onto : (t : Turn) → a.turn ≡ t → (p : Point) → OnArc a s e p → FlatOn t (arm a s) (arm a e) (view a p) (pos p.denominator)
  onto Counterclockwise is p on =
      record { whole = above p.denominator p.some; round = on.round; side = ≡-≤ (view_side a.centre (flat a.plane s) (flat a.plane e) (flat a.plane p.numerators) (pos p.denominator)) (turned_as is) }
    where
      turned_as : a.turn ≡ Counterclockwise → RightOf (flat a.plane s) (flat a.plane e) (flat a.plane p.numerators) (pos p.denominator)
      turned_as is = subst (λ (t : Turn). OnTurn t (flat a.plane s) (flat a.plane e) (flat a.plane p.numerators) (pos p.denominator)) is on.turned
  onto Clockwise is p on =
      record { whole = above p.denominator p.some; round = on.round ∙ ap (λ (z : ℤ). (pos p.denominator *ℤ pos p.denominator) *ℤ z) round_e; side = ≡-≤ (view_side a.centre (flat a.plane e) (flat a.plane s) (flat a.plane p.numerators) (pos p.denominator)) (turned_as is) }
    where
      turned_as : a.turn ≡ Clockwise → RightOf (flat a.plane e) (flat a.plane s) (flat a.plane p.numerators) (pos p.denominator)
      turned_as is = subst (λ (t : Turn). OnTurn t (flat a.plane s) (flat a.plane e) (flat a.plane p.numerators) (pos p.denominator)) is on.turned

  off : (t : Turn) → a.turn ≡ t → (p : Point) → level a p.numerators ≡ pos p.denominator *ℤ level a s → FlatOn t (arm a s) (arm a e) (view a p) (pos p.denominator) → OnArc a s e p
  off Counterclockwise is p flat_on on =
      record { flat_on = flat_on; round = on.round; turned = subst (λ (t : Turn). OnTurn t (flat a.plane s) (flat a.plane e) (flat a.plane p.numerators) (pos p.denominator)) (sym is) (≡-≤ (sym (view_side a.centre (flat a.plane s) (flat a.plane e) (flat a.plane p.numerators) (pos p.denominator))) on.side) }
  off Clockwise is p flat_on on =
      record { flat_on = flat_on; round = on.round ∙ ap (λ (z : ℤ). (pos p.denominator *ℤ pos p.denominator) *ℤ z) (sym round_e); turned = subst (λ (t : Turn). OnTurn t (flat a.plane s) (flat a.plane e) (flat a.plane p.numerators) (pos p.denominator)) (sym is) (≡-≤ (sym (view_side a.centre (flat a.plane e) (flat a.plane s) (flat a.plane p.numerators) (pos p.denominator))) on.side) }

-- ---- the point with a given view
raised : Plane → Vector → ℤ → Axes ℤ
raised XY f w = record { x = f.u; y = f.v; z = w }
raised ZX f w = record { x = f.v; y = w; z = f.u }
raised YZ f w = record { x = w; y = f.u; z = f.v }

raised_flat : (l : Plane) (f : Vector) (w : ℤ) → flat l (raised l f w) ≡ f
unfolding raised
raised_flat XY f w = refl
raised_flat ZX f w = refl
raised_flat YZ f w = refl

raised_level : (l : Plane) (f : Vector) (w : ℤ) → coordinate (w_axis l) (raised l f w) ≡ w
unfolding raised
raised_level XY f w = refl
raised_level ZX f w = refl
raised_level YZ f w = refl

abbrev plus : Vector → Vector → Vector
plus x y = record { u = x.u +ℤ y.u; v = x.v +ℤ y.v }

cancelled : (x y : Vector) → plus x y − y ≡ x
cancelled x y i = record { u = go x.u y.u i; v = go x.v y.v i }
  where
    go : (a b : ℤ) → (a +ℤ b) -ℤ b ≡ a
    go a b = omega (arith, ints)

lifted : Arc → Axes ℤ → Vector → (q : ℕ) → 0 < q → Point
lifted a s x q h =
    record { numerators = raised a.plane (plus x (scaled (pos q) a.centre)) (pos q *ℤ level a s); denominator = q; some = h }

module _ (a : Arc) (s : Axes ℤ) (x : Vector) (q : ℕ) (h : 0 < q) where
  lifted_den : (lifted a s x q h).denominator ≡ q
  unfolding lifted
  lifted_den = refl

  lifted_view : view a (lifted a s x q h) ≡ x
  unfolding lifted
  lifted_view =
      ap (λ (f : Vector). f − scaled (pos q) a.centre) (raised_flat a.plane (plus x (scaled (pos q) a.centre)) (pos q *ℤ level a s)) ∙ cancelled x (scaled (pos q) a.centre)

  lifted_level : level a (lifted a s x q h).numerators ≡ pos (lifted a s x q h).denominator *ℤ level a s
  unfolding lifted
  lifted_level = raised_level a.plane (plus x (scaled (pos q) a.centre)) (pos q *ℤ level a s)

-- ---- the answer
-- z is y + c·q, and the limit is d − c for y where it is d for z
shifted : (d c q : ℤ) → (d -ℤ c) *ℤ q +ℤ c *ℤ q ≡ d *ℤ q
shifted d c q = identity (d ∷ c ∷ q ∷ []) ((var 0 ⊖ var 1) ⊗ var 2 ⊕ var 1 ⊗ var 2) (var 0 ⊗ var 2) tt

in_flat : (l k : ℤ) {z y m : ℤ} → z ≡ y +ℤ k → l +ℤ k ≡ m → y ≤ℤ l → z ≤ℤ m
in_flat l k {z} {y} {m} e f h = omega (arith, ints)

out_flat : (l k : ℤ) {z y m : ℤ} → z ≡ y +ℤ k → l +ℤ k ≡ m → l <ℤ y → z ≤ℤ m → ⊥
out_flat l k {z} {y} {m} e f h w = omega (arith, ints)

module _ (a : Arc) (s e n : Axes ℤ) (d : ℤ) (round_e : square a s ≡ square a e) where
  abbrev limit : ℤ
  limit = d -ℤ centre_rise a s n

  arc_in : (t : Turn) → a.turn ≡ t → ((x : Vector) (w : ℤ) → FlatOn t (arm a s) (arm a e) x w → dot (flat a.plane n) x ≤ℤ (limit *ℤ w)) → All (OnArc a s e) n d
  arc_in t is h p on =
      in_flat (limit *ℤ pos p.denominator) (centre_rise a s n *ℤ pos p.denominator) (view_rise a s n p on.flat_on) (shifted d (centre_rise a s n) (pos p.denominator)) (h (view a p) (pos p.denominator) (onto a s e round_e t is p on))

  arc_out : (t : Turn) → a.turn ≡ t → (x : Vector) (w : ℤ) → pos 0 <ℤ w → FlatOn t (arm a s) (arm a e) x w → (limit *ℤ w) <ℤ dot (flat a.plane n) x → Some (OnArc a s e) n d
  arc_out t is x (pos zero) up on over = absurd up.lt
  arc_out t is x (negsuc k) up on over = absurd up.lt
  arc_out t is x (pos (suc k)) up on over = at (lifted a s x (suc k) (omega arith)) (lifted_den a s x (suc k) (omega arith)) (lifted_view a s x (suc k) (omega arith)) (lifted_level a s x (suc k) (omega arith))
    where
      at : (p : Point) → p.denominator ≡ suc k → view a p ≡ x → level a p.numerators ≡ pos p.denominator *ℤ level a s → Some (OnArc a s e) n d
      at p den seen flat_on =
          (p, off a s e round_e t is p flat_on (subst₂ (λ (y : Vector) (q : ℕ). FlatOn t (arm a s) (arm a e) y (pos q)) (sym seen) (sym den) on), out_flat (limit *ℤ pos p.denominator) (centre_rise a s n *ℤ pos p.denominator) (view_rise a s n p flat_on) (shifted d (centre_rise a s n) (pos p.denominator)) (subst₂ (λ (y : Vector) (q : ℕ). (limit *ℤ pos q) <ℤ dot (flat a.plane n) y) (sym seen) (sym den) over))

  turn_told : (t : Turn) → a.turn ≡ t → MatchBool (turn_stays t (arm a s) (arm a e) (flat a.plane n) limit) (All (OnArc a s e) n d) (Some (OnArc a s e) n d)
  turn_told Counterclockwise is = go (stays (arm a s) (arm a e) (flat a.plane n) limit) (arc_told (arm a s) (arm a e) (flat a.plane n) limit (sym round_e))
    where
      go : (r : Bool) → MatchBool r (Within (arm a s) (arm a e) (flat a.plane n) limit) (Beyond (arm a s) (arm a e) (flat a.plane n) limit) → MatchBool r (All (OnArc a s e) n d) (Some (OnArc a s e) n d)
      go true f = arc_in Counterclockwise is f
      go false b = arc_out Counterclockwise is b.0 b.1 b.2.whole b.2 b.3
  turn_told Clockwise is = go (stays (arm a e) (arm a s) (flat a.plane n) limit) (arc_told (arm a e) (arm a s) (flat a.plane n) limit round_e)
    where
      go : (r : Bool) → MatchBool r (Within (arm a e) (arm a s) (flat a.plane n) limit) (Beyond (arm a e) (arm a s) (flat a.plane n) limit) → MatchBool r (All (OnArc a s e) n d) (Some (OnArc a s e) n d)
      go true f = arc_in Clockwise is f
      go false b = arc_out Clockwise is b.0 b.1 b.2.whole b.2 b.3

pub closes_round : (a : Arc) (s e : Axes ℤ) → closes a s e ≡ true → square a s ≡ square a e
closes_round a s e h = same_is _ _ (and_parts _ _ (and_parts _ _ h).1).0

pub arc_told_in : (a : Arc) (s e n : Axes ℤ) (d : ℤ) → closes a s e ≡ true → MatchBool (turn_stays a.turn (arm a s) (arm a e) (flat a.plane n) (d -ℤ centre_rise a s n)) (All (OnArc a s e) n d) (Some (OnArc a s e) n d)
arc_told_in a s e n d h = turn_told a s e n d (closes_round a s e h) a.turn refl
