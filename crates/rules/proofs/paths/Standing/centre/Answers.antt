use Rattle.std.proofs.Common.{◌≡◌, ℤ, Some, Option, ap, ◌∙◌, rules, w32}
use Rattle.std.proofs.lemmas.Int.{to_z-of_z}
use Rattle.algebra.specs.declared.vector.Vector.{Vector}
use Rattle.motions.specs.declared.axes.Axis.{Axis}
use Rattle.motions.specs.Ranges.{centre_range}
use Rattle.rules.specs.Model.{in_reach}
use Rattle.rules.specs.Moves.{centre_along, centre_of}
use Rattle.rules.proofs.Judging.{centre_reached}
use Rattle.rules.proofs.paths.Standing.centre.Goals as goal

two : {u v p q : ℤ} → u ≡ p → v ≡ q → ◌≡◌ {A = Vector} (record { u = u; v = v }) (record { u = p; v = q })
two e f i = record { u = e i; v = f i }

pub returns : goal.returns
returns c =
    let s = c.args.self.now in
    let k = c.args.centres.now in
    let at : Axis → Option ℤ = λ a. in_reach centre_range (centre_along a s.at k) in
    let u = c.in_ok-u.u in
    let v = c.in_ok-v.v in
    record {
      value = ap Some (two (to_z-of_z w32 u (search rules)) (to_z-of_z w32 v (search rules)))
          ∙ centre_reached (centre_of s.functions.now.plane s.at k) u v (c.in_ok-u.ensures.value ∙ ap at c.u.ensures.value) (c.in_ok-v.ensures.value ∙ ap at c.v.ensures.value);
    }
