-- How the areas decide, on whole numbers alone. That each test answers exactly is proved where an area is asked. Assumes nothing.
--     corner n s e         of the box between s and e, the corner at which n rises highest
--     centre_rise a s n    what n rises to at the centre of the arc a, at the level of s
--     keeps n d m          the row m stays where n rises to at most d
--     unit a k             the direction of the axis a, times k
--     limit_on s a l       the limit on the side s of the axis a
--     keeps_limit s a o m  the row m keeps o, where there is one, as the limit on that side
--     keeps_box l m        the row m stays within the limits l
use Rattle.std.specs.Prelude.{Bool, true, cond, ◌&&◌, ℤ, pos, negsuc, ◌+ℤ◌, ◌-ℤ◌, ◌*ℤ◌, Some, None, Option, int_le, int_lt}
use Rattle.std.specs.Int.{int_max, int_min}
use Rattle.algebra.specs.declared.vector.Vector.{Vector}
use Rattle.algebra.specs.Plane.{dot, stays}
use Rattle.motions.specs.declared.axes.Axis.{Axis}
use Rattle.motions.specs.declared.axes.Axis.TheVariants.{X, Y, Z}
use Rattle.motions.specs.declared.axes.Axes.{Axes}
use Rattle.motions.specs.declared.limits.Limits.{Limits}
use Rattle.motions.specs.declared.row.Turn.{Turn}
use Rattle.motions.specs.declared.row.Turn.TheVariants.{Counterclockwise, Clockwise}
use Rattle.motions.specs.declared.row.Arc.{Arc}
use Rattle.motions.specs.declared.row.PathKind.{PathKind}
use Rattle.motions.specs.declared.row.PathKind.TheVariants.{Rapid, Line, Arc as arc}
use Rattle.motions.specs.declared.row.Row.{Row}
use Rattle.motions.specs.Axes.{coordinate, alike, set_on, flat}
use Rattle.motions.specs.Motions.{arm, level}
use Rattle.geometry.specs.declared.limit_box.side.Side.{Side}
use Rattle.geometry.specs.declared.limit_box.side.Side.TheVariants.{Lower, Upper}
use Rattle.geometry.specs.Areas.{rise}

-- that of a and b at which k times it is larger
abbrev pub higher : ℤ → ℤ → ℤ → ℤ
higher k a b = cond (int_lt (pos 0) k) (int_max a b) (int_min a b)

abbrev pub corner : Axes ℤ → Axes ℤ → Axes ℤ → Axes ℤ
corner n s e = record { x = higher n.x s.x e.x; y = higher n.y s.y e.y; z = higher n.z s.z e.z }

abbrev pub centre_rise : Arc → Axes ℤ → Axes ℤ → ℤ
centre_rise a s n = dot (flat a.plane n) a.centre +ℤ level a n *ℤ level a s

abbrev pub turn_stays : Turn → Vector → Vector → Vector → ℤ → Bool
turn_stays Counterclockwise s e n d = stays s e n d
turn_stays Clockwise s e n d = stays e s n d

abbrev pub keeps_arc : Axes ℤ → ℤ → Arc → Axes ℤ → Axes ℤ → Bool
keeps_arc n d a s e = turn_stays a.turn (arm a s) (arm a e) (flat a.plane n) (d -ℤ centre_rise a s n)

abbrev pub keeps_kind : Axes ℤ → ℤ → PathKind → Axes ℤ → Axes ℤ → Bool
keeps_kind n d Rapid s e = int_le (rise n (corner n s e)) d
keeps_kind n d Line s e = int_le (rise n s) d && int_le (rise n e) d
keeps_kind n d (arc a) s e = keeps_arc n d a s e

abbrev pub keeps : Axes ℤ → ℤ → Row → Bool
keeps n d m = keeps_kind n d m.kind m.start m.end

abbrev pub unit : Axis → ℤ → Axes ℤ
unit a k = set_on a k (alike (pos 0))

-- a coordinate keeps a limit of the side where it is at most that, both times the factor
abbrev pub factor : Side → ℤ
factor Lower = negsuc 0
factor Upper = pos 1

abbrev pub limit_on : Side → Axis → Limits → Option ℤ
limit_on Lower a l = coordinate a l.lower
limit_on Upper a l = coordinate a l.upper

abbrev pub keeps_limit : Side → Axis → Option ℤ → Row → Bool
keeps_limit s a None m = true
keeps_limit s a (Some v) m = keeps (unit a (factor s)) (factor s *ℤ v) m

abbrev pub keeps_axis : Limits → Axis → Row → Bool
keeps_axis l a m = keeps_limit Lower a (limit_on Lower a l) m && keeps_limit Upper a (limit_on Upper a l) m

abbrev pub keeps_box : Limits → Row → Bool
keeps_box l m = keeps_axis l X m && (keeps_axis l Y m && keeps_axis l Z m)
