use Rattle.std.proofs.Common.{◌≡◌, true, ℤ, pos, negsuc, ◌*ℤ◌, Option, Some, sym, ap, ◌∙◌, subst, lit<, w32, arith}
use Rattle.std.proofs.lemmas.Int.{ints}
use Rattle.algebra.proofs.Bounded.{Num, bitted, given, mul}
use Rattle.motions.specs.declared.axes.Axes.{Axes}
use Rattle.motions.specs.declared.axes.Axis.{Axis}
use Rattle.motions.specs.declared.limits.Limits.{Limits}
use Rattle.motions.specs.Axes.{alike, set_on}
use Rattle.motions.specs.Model.{row_of}
use Rattle.motions.specs.Ranges.{within, present_within, position_range}
use Rattle.geometry.specs.declared.limit_box.side.Side.{Side}
use Rattle.geometry.specs.declared.limit_box.side.Side.TheVariants.{Lower, Upper}
use Rattle.geometry.specs.Deciding.{factor, limit_on, keeps, keeps_limit, unit}
use Rattle.geometry.specs.Settings.{box_taken, edge_taken}
use Rattle.geometry.proofs.InRange.{bounded, limit_within, limit_taken}
use Rattle.geometry.proofs.limit_box.LimitBox.keeps_limit.Goals as goal

own : (side : Side) → Num (bitted w32 (factor side)) (factor side) 1
own Lower = given w32 1 (negsuc 0) (omega (arith, ints)) (lit< tt)
own Upper = given w32 1 (pos 1) (omega (arith, ints)) (lit< tt)

-- the edge of a limit v, from what the calls for it returned
module _ (side : Side) (a : Axis) (v : ℤ) {f : ℤ} (is_f : f ≡ factor side) where
  computed_factor : Num (bitted w32 f) (factor side) 1
  computed_factor = record { is = ap (λ (z : ℤ). bitted w32 z) is_f ∙ (own side).is; size = (own side).size }

  direction : {t u : Axes ℤ} → t ≡ set_on a (bitted w32 f) u → u ≡ alike (pos 0) → t ≡ unit a (factor side)
  direction is_t is_u = is_t ∙ (λ i. set_on a (computed_factor.is i) (is_u i))

  scaled : within position_range v ≡ true → bitted w32 (bitted w32 f *ℤ bitted w32 v) ≡ factor side *ℤ v
  scaled h = (mul w32 computed_factor (given w32 2000000 v (bounded position_range v h) (lit< tt)) (lit< tt)).is

in_range : (side : Side) (l : Limits) (a : Axis) {v : ℤ} → limit_on side a l ≡ Some v → box_taken l ≡ true → within position_range v ≡ true
in_range side l a is h = subst (λ (o : Option ℤ). present_within position_range o ≡ true) is (limit_within side l a h)

pub invariant_of-edge : goal.invariant_of-edge
invariant_of-edge c =
    let s = c.args.side in
    let a = c.args.axis in
    let v = c.in-Some.limit in
    let h = in_range s c.args.self.now.limits a (sym c.limit.ensures.value ∙ c.in-Some.is) c.args.self.now.taken in
    let n = direction s a v c.factor-factor.ensures.value c.with.ensures.value c.alike.ensures.value in
    record { taken = (λ i. edge_taken (n i) (scaled s a v c.factor-factor.ensures.value h i)) ∙ limit_taken s a v h }

pub returns-in-Some : goal.returns-in-Some
returns-in-Some c =
    let s = c.args.side in
    let a = c.args.axis in
    let v = c.in-Some.limit in
    let m = row_of c.args.motion.now in
    let is = sym c.limit.ensures.value ∙ c.in-Some.is in
    let h = in_range s c.args.self.now.limits a is c.args.self.now.taken in
    let n = direction s a v c.factor-factor.ensures.value c.with.ensures.value c.alike.ensures.value in
    record { value = c.keeps.ensures.value ∙ (λ i. keeps (n i) (scaled s a v c.factor-factor.ensures.value h i) m) ∙ sym (ap (λ (o : Option ℤ). keeps_limit s a o m) is) }
