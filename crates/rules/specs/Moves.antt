-- What a line of words does. Assumes nothing.
--     in_force ws fs     the functions fs, with those that the line sets
--     framed ws f        the zero and shift record f, with the zero point that the line chooses
--     counted ws f       what counts of it in the line: nothing where G53 stands
--     goal_of m from zero shift o   where an axis goes from `from` whose value is o
--     end_of fs f z at v  where the line's motion ends
--     centre_along a at c   the coordinate of an arc's centre along the axis a: the start's, and what I, J or K adds to it
--     centre_of l at c   the centre of an arc in the plane l: the start, and the plane's two of I, J and K
--     row_from fs f z at ws   the numbers of the line's motion from the position `at`, the functions fs being in force and f counting
--     row_of ws s         the same, its functions being in force in s
--     misplaced fs c     I, J or K where none belongs: under G0 and G1, and the third one under G2 and G3
--     fault_of ws s      why the line makes no motion, the range first
--     moves ws s         the line's motion
--     acts ws s          what the line does: its functions first; an axis word, or I, J or K, makes a motion
use Rattle.std.specs.Prelude.{ℕ, ◌+◌, Bool, true, false, cond, not, ◌||◌, ℤ, pos, ◌+ℤ◌, is_some, Some, None, Option, ◌==◌, nat_le}
use Rattle.std.specs.Option.{unwrap_or}
use Rattle.algebra.specs.declared.vector.Vector.{Vector}
use Rattle.motions.specs.declared.axes.Axes.{Axes}
use Rattle.motions.specs.declared.axes.Axis.{Axis}
use Rattle.motions.specs.declared.axes.Plane.{Plane}
use Rattle.motions.specs.declared.refusal.Reason.{Reason}
use Rattle.motions.specs.declared.refusal.Reason.TheVariants.{MotionRange, ArcRule, MotionsMade}
use Rattle.motions.specs.declared.row.PathKind.{PathKind}
use Rattle.motions.specs.declared.row.PathKind.TheVariants as path
use Rattle.motions.specs.declared.row.Row.{Row}
use Rattle.motions.specs.Axes.{coordinate, none_named, u_axis, v_axis, w_axis}
use Rattle.motions.specs.Motions.{row_in_range, keeps_arc_rule}
use Rattle.forms.specs.declared.said.Words.{Words}
use Rattle.rules.specs.declared.state.Frame.{Frame}
use Rattle.rules.specs.declared.state.Functions.{Functions}
use Rattle.forms.specs.declared.said.Interpolation.{Interpolation}
use Rattle.forms.specs.declared.said.Interpolation.TheVariants.{Rapid, Line, Arc}
use Rattle.forms.specs.declared.said.Measure.{Measure}
use Rattle.forms.specs.declared.said.Measure.TheVariants.{Absolute, Incremental}
use Rattle.forms.specs.declared.said.Slot.{Slot}
use Rattle.forms.specs.declared.said.Slot.TheVariants.{G500, G54, G55, G56, G57}
use Rattle.rules.specs.declared.state.Zeros.{Zeros}
use Rattle.forms.specs.Words.{Each}
use Rattle.rules.specs.State.{State, Made, Event, goes, ends, origin, no_frame, refuse_motion, with_modal, due_at, moved_to}

-- ---- the functions of a line

abbrev pub in_force : {V : Type 0} → Words V → Functions → Functions
in_force ws fs = record {
  interpolation = unwrap_or ws.groups.motion fs.interpolation;
  plane = unwrap_or ws.groups.plane fs.plane;
  measure = unwrap_or ws.groups.measure fs.measure;
  watched = unwrap_or ws.area fs.watched;
}

abbrev pub framed : {V : Type 0} → Words V → Frame → Frame
framed ws f = record { slot = unwrap_or ws.groups.zero f.slot; shift = f.shift }

abbrev pub counted : {V : Type 0} → Words V → Frame → Frame
counted ws f = cond ws.groups.g53 no_frame f

-- ---- where it goes

abbrev pub zero_of : Zeros → Slot → Axes ℤ
zero_of z G500 = origin
zero_of z G54 = z.g54
zero_of z G55 = z.g55
zero_of z G56 = z.g56
zero_of z G57 = z.g57

abbrev pub goal_of : Measure → ℤ → ℤ → ℤ → Option ℤ → ℤ
goal_of m from zero shift None = from
goal_of Absolute from zero shift (Some v) = v +ℤ (zero +ℤ shift)
goal_of Incremental from zero shift (Some v) = from +ℤ v

abbrev pub end_of : Measure → Frame → Zeros → Axes ℤ → Each ℤ → Axes ℤ
end_of m f z at v = record {
  x = goal_of m at.x (zero_of z f.slot).x f.shift.x v.x;
  y = goal_of m at.y (zero_of z f.slot).y f.shift.y v.y;
  z = goal_of m at.z (zero_of z f.slot).z f.shift.z v.z;
}

abbrev pub centre_along : Axis → Axes ℤ → Each ℤ → ℤ
centre_along a at c = coordinate a at +ℤ unwrap_or (coordinate a c) (pos 0)

abbrev pub centre_of : Plane → Axes ℤ → Each ℤ → Vector
centre_of l at c = record { u = centre_along (u_axis l) at c; v = centre_along (v_axis l) at c }

abbrev pub kind_of : Interpolation → Plane → Axes ℤ → Each ℤ → PathKind
kind_of Rapid l at c = path.Rapid
kind_of Line l at c = path.Line
kind_of (Arc t) l at c = path.Arc (record { plane = l; turn = t; centre = centre_of l at c })

abbrev pub row_from : Functions → Frame → Zeros → Axes ℤ → Words ℤ → Row
row_from fs f z at ws = record { kind = kind_of fs.interpolation fs.plane at ws.centres; start = at; end = end_of fs.measure f z at ws.axes }

abbrev pub row_of : Words ℤ → State → Row
row_of ws s = row_from s.modal.functions (counted ws s.modal.frame) s.zeros s.at ws

-- ---- whether it may

abbrev pub any_named : {V : Type 0} → Each V → Bool
any_named a = not (none_named a)

abbrev pub misplaced : Interpolation → Plane → Each ℤ → Bool
misplaced Rapid l c = any_named c
misplaced Line l c = any_named c
misplaced (Arc t) l c = is_some (coordinate (w_axis l) c)

abbrev pub fault_by : Bool → Row → Option Reason
fault_by wrong m = cond (row_in_range m) (cond (wrong || not (keeps_arc_rule m)) (Some ArcRule) None) (Some MotionRange)

abbrev pub fault_of : Words ℤ → State → Option Reason
fault_of ws s = fault_by (misplaced s.modal.functions.interpolation s.modal.functions.plane ws.centres) (row_of ws s)

-- ---- what it does

-- how many motions a run makes at most
abbrev pub most_motions : ℕ
most_motions = 1000

-- M2 and M30 end the run
abbrev pub stops : Option ℕ → Bool
stops None = false
stops (Some n) = n == 2 || n == 30

abbrev pub after : (stop : Bool) → Option Made → State → Event
after true m s = ends m s
after false m s = goes m s

abbrev pub made_of : Words ℤ → State → Made
made_of ws s = record { line = s.due; row = row_of ws s; limits = s.modal.limits; watched = s.modal.functions.watched }

abbrev pub or_fault : Option Reason → State → Event → Event
or_fault None s e = cond (nat_le most_motions s.made) (refuse_motion MotionsMade s) e
or_fault (Some r) s e = refuse_motion r s

abbrev pub moves : Words ℤ → State → Event
moves ws s = or_fault (fault_of ws s) s (after (stops ws.action) (Some (made_of ws s)) (moved_to (row_of ws s).end s))

abbrev pub stays : Words ℤ → State → Event
stays ws s = after (stops ws.action) None (due_at (s.due + 1) s)

abbrev pub settled : Words ℤ → State → State
settled ws s = with_modal (record { functions = in_force ws s.modal.functions; params = s.modal.params; frame = framed ws s.modal.frame; limits = s.modal.limits }) s

abbrev pub acts : Words ℤ → State → Event
acts ws s = cond (any_named ws.axes || any_named ws.centres) (moves ws (settled ws s)) (stays ws (settled ws s))
