-- Which rows make a motion. Assumes nothing.
--     same a b             two numbers are equal
--     arm a s              from the centre of the arc a to s, in the plane of a
--     square a s           the square distance of s from that centre
--     level a s            the coordinate of s that the plane of a leaves out
--     closes a s e         the arc rule: s and e have one level and one square distance, which is above 0
--     row_in_range m       start and end are in range, and so is the centre of an arc
--     keeps_arc_rule m     an arc closes
--     fault m              what keeps m from making a motion, the range first
use Rattle.std.specs.Prelude.{Bool, true, cond, ◌&&◌, ℤ, pos, Some, None, Option, int_le, int_lt}
use Rattle.algebra.specs.declared.vector.Vector.{Vector}
use Rattle.algebra.specs.Plane.{dot, ◌−◌}
use Rattle.motions.specs.declared.axes.Axes.{Axes}
use Rattle.motions.specs.declared.row.Arc.{Arc}
use Rattle.motions.specs.declared.row.PathKind.{PathKind}
use Rattle.motions.specs.declared.row.PathKind.TheVariants.{Rapid, Line, Arc as arc}
use Rattle.motions.specs.declared.row.Row.{Row}
use Rattle.motions.specs.declared.refusal.Reason.{Reason}
use Rattle.motions.specs.declared.refusal.Reason.TheVariants.{MotionRange, ArcRule}
use Rattle.motions.specs.Axes.{coordinate, w_axis, flat}
use Rattle.motions.specs.Ranges.{within, each_within, position_range, centre_range}

abbrev pub same : ℤ → ℤ → Bool
same a b = int_le a b && int_le b a

abbrev pub arm : Arc → Axes ℤ → Vector
arm a s = flat a.plane s − a.centre

abbrev pub square : Arc → Axes ℤ → ℤ
square a s = dot (arm a s) (arm a s)

abbrev pub level : Arc → Axes ℤ → ℤ
level a s = coordinate (w_axis a.plane) s

abbrev pub closes : Arc → Axes ℤ → Axes ℤ → Bool
closes a s e = same (level a s) (level a e) && (same (square a s) (square a e) && int_lt (pos 0) (square a s))

abbrev pub arc_in_range : Arc → Bool
arc_in_range a = within centre_range a.centre.u && within centre_range a.centre.v

abbrev pub centre_in_range : PathKind → Bool
centre_in_range Rapid = true
centre_in_range Line = true
centre_in_range (arc a) = arc_in_range a

abbrev pub row_in_range : Row → Bool
row_in_range m =
    each_within position_range m.start && (each_within position_range m.end && centre_in_range m.kind)

abbrev pub kind_closes : PathKind → Axes ℤ → Axes ℤ → Bool
kind_closes Rapid s e = true
kind_closes Line s e = true
kind_closes (arc a) s e = closes a s e

abbrev pub keeps_arc_rule : Row → Bool
keeps_arc_rule m = kind_closes m.kind m.start m.end

abbrev pub fault : Row → Option Reason
fault m = cond (row_in_range m) (cond (keeps_arc_rule m) None (Some ArcRule)) (Some MotionRange)
