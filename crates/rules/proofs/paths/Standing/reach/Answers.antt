use Rattle.std.proofs.Common.{◌≡◌, ℤ, lit<, refl, ap, ◌∙◌, rules, w32, w64}
use Rattle.std.proofs.lemmas.Int.{to_z-of_z}
use Rattle.motions.specs.Axes.{coordinate}
use Rattle.motions.specs.declared.axes.Axes.{Axes}
use Rattle.motions.specs.declared.axes.Axis.{Axis}
use Rattle.motions.specs.declared.axes.Axis.TheVariants.{X, Y, Z}
use Rattle.motions.specs.Ranges.{position_range}
use Rattle.forms.specs.declared.said.Measure.{Measure}
use Rattle.rules.specs.declared.state.Frame.{Frame}
use Rattle.rules.specs.declared.state.Zeros.{Zeros}
use Rattle.rules.specs.Model.{in_reach}
use Rattle.rules.specs.Moves.{zero_of, goal_of, end_of}
use Rattle.forms.specs.Words.{Each}
use Rattle.rules.proofs.paths.Standing.reach.Goals as goal

along_end : (a : Axis) (m : Measure) (f : Frame) (z : Zeros) (at : Axes ℤ) (v : Each ℤ)
    → goal_of m (coordinate a at) (coordinate a (zero_of z f.slot)) (coordinate a f.shift) (coordinate a v) ≡ coordinate a (end_of m f z at v)
along_end X m f z at v = refl
along_end Y m f z at v = refl
along_end Z m f z at v = refl

pub returns : goal.returns
returns c =
    let s = c.args.self.now in
    let m = s.functions.now.measure in
    let f = c.args.frame.now in
    let v = c.args.values.now in
    let a = c.args.axis in
    let from = to_z-of_z w32 c.along.result (search rules) ∙ c.along.ensures.value in
    let zero = to_z-of_z w32 c.along-2.result (search rules) ∙ c.along-2.ensures.value ∙ ap (coordinate a) c.zero-zero.ensures.value in
    let e : c.goal-goal.result ≡ coordinate a (end_of m f s.zeros.now s.at v) =
    c.goal-goal.ensures.value ∙ (λ i. goal_of m (from i) (zero i) (c.along-3.ensures.value i) (c.along-4.ensures.value i)) ∙ along_end a m f s.zeros.now s.at v in
    record { value = c.in_reach.ensures.value (lit< tt) ∙ ap (in_reach position_range) (to_z-of_z w64 c.goal-goal.result (record { sfits = c.goal-goal.type_inv }) ∙ e) }
