-- A box whose limits are in range stays so when a limit in range is put in.
use Rattle.std.proofs.Common.{◌≡◌, Bool, true, false, ℤ, Option, sym, ap, ◌∙◌}
use Rattle.std.proofs.lemmas.Bool.{and_parts, and_from}
use Rattle.motions.specs.declared.axes.Axis.{Axis}
use Rattle.motions.specs.declared.limits.Limits.{Limits}
use Rattle.motions.specs.Ranges.{present_within, position_range}
use Rattle.geometry.specs.Settings.{each_present_within, box_taken, with_limit}
use Rattle.geometry.proofs.InRange.{each_set}
use Rattle.geometry.proofs.limit_box.LimitBox.with.Goals as goal

stays_taken : (upper : Bool) (a : Axis) (o : Option ℤ) (l : Limits) → present_within position_range o ≡ true → box_taken l ≡ true → box_taken (with_limit upper a o l) ≡ true
stays_taken false a o l h all =
    let p = and_parts (each_present_within l.lower) (each_present_within l.upper) all in
    and_from _ _ (each_set (present_within position_range) a o l.lower h p.0) p.1
stays_taken true a o l h all =
    let p = and_parts (each_present_within l.lower) (each_present_within l.upper) all in
    and_from _ _ p.0 (each_set (present_within position_range) a o l.upper h p.1)

pub invariant_of-result : goal.invariant_of-result
invariant_of-result c =
    let fits : present_within position_range c.args.limit ≡ true = sym c.within.ensures.value ∙ c.if-not-within.false in
    record { taken = ap box_taken c.with_limit-limits.ensures.value ∙ stays_taken c.args.upper c.args.axis c.args.limit c.args.self.now.limits fits c.args.self.now.taken }
