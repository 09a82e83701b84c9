-- Which settings of an area are taken. Assumes nothing.
--     edge_taken n d            factors and limit of an edge: each in range, and some factor not 0
--     box_taken l               limits of a box: each that is there in range
--     with_limit upper a o l    the limits l with o as the upper, or else the lower one of the axis a
use Rattle.std.specs.Prelude.{Bool, true, false, not, ◌&&◌, ℤ, pos, Option}
use Rattle.std.specs.Ordering.{int_eq}
use Rattle.motions.specs.declared.axes.Axis.{Axis}
use Rattle.motions.specs.declared.axes.Axes.{Axes}
use Rattle.motions.specs.declared.limits.Limits.{Limits}
use Rattle.motions.specs.Axes.{set_on}
use Rattle.motions.specs.Ranges.{within, each, each_within, present_within, position_range, factor_range, edge_range}

abbrev pub all_zero : Axes ℤ → Bool
all_zero t = each (λ z. int_eq z (pos 0)) t

abbrev pub edge_taken : Axes ℤ → ℤ → Bool
edge_taken n d = each_within factor_range n && (not (all_zero n) && within edge_range d)

abbrev pub each_present_within : Axes (Option ℤ) → Bool
each_present_within t = each (present_within position_range) t

abbrev pub box_taken : Limits → Bool
box_taken l = each_present_within l.lower && each_present_within l.upper

abbrev pub with_limit : (upper : Bool) → Axis → Option ℤ → Limits → Limits
with_limit false a o l = record { lower = set_on a o l.lower; upper = l.upper }
with_limit true a o l = record { lower = l.lower; upper = set_on a o l.upper }
