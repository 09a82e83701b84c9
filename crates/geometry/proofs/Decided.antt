-- Each test of specs.Deciding answers exactly for its set of points. Assumes nothing.
--     keeps_told      the test of a half space
--     box_told        the test of a box: six half spaces, one for each limit that is there
--     both, likewise  two answers make that for the points in both sets
use Rattle.std.proofs.Common.{◌≡◌, Bool, true, false, ◌&&◌, [], ◌∷◌, ℤ, pos, negsuc, ◌*ℤ◌, ◌≤ℤ◌, Some, None, MatchBool, Option, sym, arith}
use Rattle.std.proofs.lemmas.Int.{ints}
use Rattle.algebra.proofs.Integers.{*-assoc}
use Rattle.algebra.proofs.Polynomials.{num, var, ◌⊕◌, ◌⊗◌, identity}
use Rattle.algebra.proofs.Products.{≡-≤, ≤-≡}
use Rattle.motions.specs.declared.axes.Axis.{Axis}
use Rattle.motions.specs.declared.axes.Axis.TheVariants.{X, Y, Z}
use Rattle.motions.specs.declared.axes.Axes.{Axes}
use Rattle.motions.specs.declared.limits.Limits.{Limits}
use Rattle.motions.specs.declared.row.PathKind.{PathKind}
use Rattle.motions.specs.declared.row.PathKind.TheVariants.{Rapid, Line, Arc as arc}
use Rattle.motions.specs.declared.row.Row.{Row}
use Rattle.motions.specs.Axes.{coordinate}
use Rattle.motions.specs.Motions.{kind_closes, keeps_arc_rule}
use Rattle.geometry.specs.Points.{Point}
use Rattle.geometry.specs.Paths.{OnKind}
use Rattle.geometry.specs.Areas.{Outside, Answered, rise, InEdge, AtLeast, AtMost, InBox}
use Rattle.geometry.specs.declared.limit_box.side.Side.TheVariants.{Lower, Upper}
use Rattle.geometry.specs.Deciding.{keeps_kind, keeps, unit, keeps_limit, keeps_axis, keeps_box}
use Rattle.geometry.proofs.Straight.{All, Some as SomeOver, line_told, rapid_told}
use Rattle.geometry.proofs.Lift.{arc_told_in}

kind_told : (n : Axes ℤ) (d : ℤ) (k : PathKind) (s e : Axes ℤ) → kind_closes k s e ≡ true → MatchBool (keeps_kind n d k s e) (All (OnKind k s e) n d) (SomeOver (OnKind k s e) n d)
kind_told n d Rapid s e h = rapid_told s e n d
kind_told n d Line s e h = line_told s e n d
kind_told n d (arc a) s e h = arc_told_in a s e n d h

pub keeps_told : (n : Axes ℤ) (d : ℤ) (m : Row) → keeps_arc_rule m ≡ true → Answered (keeps n d m) (InEdge n d) m
keeps_told n d m h = kind_told n d m.kind m.start m.end h

module _ (m : Row) where
  pub first_fails : (C D : Point → Type 0) → Outside C m → Outside (λ p. C p × D p) m
  first_fails C D f = (f.0, f.1, λ h. f.2 h.0)

  pub both : (x y : Bool) (C D : Point → Type 0) → Answered x C m → Answered y D m → Answered (x && y) (λ p. C p × D p) m
  both true true C D f g = λ p on. (f p on, g p on)
  both true false C D f g = (g.0, g.1, λ h. g.2 h.1)
  both false y C D f g = first_fails C D f

  -- a set by another description
  pub likewise : (x : Bool) (C D : Point → Type 0) → ((p : Point) → C p → D p) → ((p : Point) → D p → C p) → Answered x C m → Answered x D m
  likewise true C D to fro f = λ p on. to p (f p on)
  likewise false C D to fro f = (f.0, f.1, λ h. f.2 (fro f.0 h))

-- ---- the sides of a box
unit_rise : (a : Axis) (k : ℤ) (t : Axes ℤ) → rise (unit a k) t ≡ k *ℤ coordinate a t
unit_rise X k t = identity (k ∷ t.x ∷ t.y ∷ t.z ∷ []) (var 0 ⊗ var 1 ⊕ num (pos 0) ⊗ var 2 ⊕ num (pos 0) ⊗ var 3) (var 0 ⊗ var 1) tt
unit_rise Y k t = identity (k ∷ t.x ∷ t.y ∷ t.z ∷ []) (num (pos 0) ⊗ var 1 ⊕ var 0 ⊗ var 2 ⊕ num (pos 0) ⊗ var 3) (var 0 ⊗ var 2) tt
unit_rise Z k t = identity (k ∷ t.x ∷ t.y ∷ t.z ∷ []) (num (pos 0) ⊗ var 1 ⊕ num (pos 0) ⊗ var 2 ⊕ var 0 ⊗ var 3) (var 0 ⊗ var 3) tt

-- a limit v of a side, at the factor f of that side
module _ (f : ℤ) (a : Axis) (v : ℤ) (p : Point) where
  beside : InEdge (unit a f) (f *ℤ v) p → (f *ℤ coordinate a p.numerators) ≤ℤ (f *ℤ (v *ℤ pos p.denominator))
  beside h = ≡-≤ (sym (unit_rise a f p.numerators)) (≤-≡ h together)
    where
      together : (f *ℤ v) *ℤ pos p.denominator ≡ f *ℤ (v *ℤ pos p.denominator)
      together = *-assoc f v (pos p.denominator)

  inside : (f *ℤ coordinate a p.numerators) ≤ℤ (f *ℤ (v *ℤ pos p.denominator)) → InEdge (unit a f) (f *ℤ v) p
  inside h = ≡-≤ (unit_rise a f p.numerators) (≤-≡ h (sym (*-assoc f v (pos p.denominator))))

at_least : {x y : ℤ} → (negsuc 0 *ℤ x) ≤ℤ (negsuc 0 *ℤ y) → y ≤ℤ x
at_least {x} {y} h = omega (arith, ints)

at_least_from : {x y : ℤ} → y ≤ℤ x → (negsuc 0 *ℤ x) ≤ℤ (negsuc 0 *ℤ y)
at_least_from {x} {y} h = omega (arith, ints)

at_most : {x y : ℤ} → (pos 1 *ℤ x) ≤ℤ (pos 1 *ℤ y) → x ≤ℤ y
at_most {x} {y} h = omega (arith, ints)

at_most_from : {x y : ℤ} → x ≤ℤ y → (pos 1 *ℤ x) ≤ℤ (pos 1 *ℤ y)
at_most_from {x} {y} h = omega (arith, ints)

module _ (m : Row) (closed : keeps_arc_rule m ≡ true) where
  lower_told : (a : Axis) (o : Option ℤ) → Answered (keeps_limit Lower a o m) (λ p. AtLeast o (coordinate a p.numerators) p.denominator) m
  lower_told a None = λ p on. tt
  lower_told a (Some v) = likewise m _ _ _ (λ p h. at_least (beside (negsuc 0) a v p h)) (λ p h. inside (negsuc 0) a v p (at_least_from h)) (keeps_told (unit a (negsuc 0)) (negsuc 0 *ℤ v) m closed)

  upper_told : (a : Axis) (o : Option ℤ) → Answered (keeps_limit Upper a o m) (λ p. AtMost o (coordinate a p.numerators) p.denominator) m
  upper_told a None = λ p on. tt
  upper_told a (Some v) = likewise m _ _ _ (λ p h. at_most (beside (pos 1) a v p h)) (λ p h. inside (pos 1) a v p (at_most_from h)) (keeps_told (unit a (pos 1)) (pos 1 *ℤ v) m closed)

  -- the points between the limits of one axis
  abbrev Slab : Limits → Axis → Point → Type 0
  Slab l a p = AtLeast (coordinate a l.lower) (coordinate a p.numerators) p.denominator × AtMost (coordinate a l.upper) (coordinate a p.numerators) p.denominator

  axis_told : (l : Limits) (a : Axis) → Answered (keeps_axis l a m) (Slab l a) m
  axis_told l a = both m _ _ _ _ (lower_told a (coordinate a l.lower)) (upper_told a (coordinate a l.upper))

  by_axis : (l : Limits) (p : Point) → Slab l X p → Slab l Y p → Slab l Z p → InBox l p
  by_axis l p x y z X = x
  by_axis l p x y z Y = y
  by_axis l p x y z Z = z

  pub box_told : (l : Limits) → Answered (keeps_box l m) (InBox l) m
  box_told l =
      likewise m (keeps_box l m) _ (InBox l) (λ p h. by_axis l p h.0 h.1.0 h.1.1) (λ p h. (h X, (h Y, h Z)))
      (both m _ _ _ _ (axis_told l X) (both m _ _ _ _ (axis_told l Y) (axis_told l Z)))
