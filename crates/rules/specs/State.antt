-- What a run starts from, what it has in hand, and what a line comes to. Assumes nothing.
--     Setup              the panel's limits and zero points, and the position
--     Modal              what holds until it is set again: the functions in force, the R parameters, zero and shift, the working area
--     State              `due` is the line that is due, `made` the number of motions made; of the open repeats the last one opened comes first
--     Made               a motion as the run made it: its line, its numbers, the working area as it stood and whether it was on
--     Event              what a line comes to: the run goes on, or ends, with the line's motion if it made one; or it is refused
--     start u            the state in which a run starts
--     refuse, refuse_motion   a line is refused, or the motion that it would make
--     or_refuse r s o k  k of what o has, and refusal r where it has nothing
--     goto k s, next s   the run goes on at line k, or at the next line
use Rattle.std.specs.Prelude.{ℕ, ◌+◌, Bool, true, List, [], replicate, ℤ, pos, Some, None, Option}
use Rattle.motions.specs.declared.axes.Axes.{Axes}
use Rattle.motions.specs.declared.axes.Plane.TheVariants.{XY}
use Rattle.motions.specs.declared.limits.Limits.{Limits}
use Rattle.motions.specs.declared.refusal.Reason.{Reason}
use Rattle.motions.specs.declared.refusal.Refusal.{Refusal}
use Rattle.motions.specs.declared.row.Row.{Row}
use Rattle.rules.specs.declared.state.Frame.{Frame}
use Rattle.rules.specs.declared.state.Functions.{Functions}
use Rattle.forms.specs.declared.said.Interpolation.TheVariants.{Line}
use Rattle.forms.specs.declared.said.Measure.TheVariants.{Absolute}
use Rattle.rules.specs.declared.state.Repeat.{Repeat}
use Rattle.forms.specs.declared.said.Slot.TheVariants.{G500}
use Rattle.rules.specs.declared.state.Zeros.{Zeros}

pub record Setup : Type 0 where
  pub limits : Limits
  pub zeros : Zeros
  pub at : Axes ℤ

pub record Modal : Type 0 where
  pub functions : Functions
  pub params : List ℤ
  pub frame : Frame
  pub limits : Limits

pub record State : Type 0 where
  pub due : ℕ
  pub modal : Modal
  pub zeros : Zeros
  pub at : Axes ℤ
  pub repeats : List Repeat
  pub made : ℕ

pub record Made : Type 0 where
  pub line : ℕ
  pub row : Row
  pub limits : Limits
  pub watched : Bool

pub data Event : Type 0 where
  goes : Option Made → State → Event
  ends : Option Made → State → Event
  refused : Refusal → Event

-- ---- the start

abbrev pub origin : Axes ℤ
origin = record { x = pos 0; y = pos 0; z = pos 0 }

-- no zero and no shift
abbrev pub no_frame : Frame
no_frame = record { slot = G500; shift = origin }

-- G1, G17, G90, WALIMON
abbrev pub first_functions : Functions
first_functions = record { interpolation = Line; plane = XY; measure = Absolute; watched = true }

abbrev pub start : Setup → State
start u = record {
  due = 1;
  modal = record { functions = first_functions; params = replicate 100 (pos 0); frame = no_frame; limits = u.limits };
  zeros = u.zeros;
  at = u.at;
  repeats = [];
  made = 0;
}

-- ---- refusals

abbrev pub refuse : Reason → State → Event
refuse r s = refused (record { reason = r; line = s.due; motion = 0 })

abbrev pub refuse_motion : Reason → State → Event
refuse_motion r s = refused (record { reason = r; line = s.due; motion = s.made + 1 })

abbrev pub or_refuse : {A : Type 0} → Reason → State → Option A → (A → Event) → Event
or_refuse r s None k = refuse r s
or_refuse r s (Some a) k = k a

-- ---- going on

abbrev pub with_modal : Modal → State → State
with_modal m s = record { due = s.due; modal = m; zeros = s.zeros; at = s.at; repeats = s.repeats; made = s.made }

abbrev pub with_repeats : List Repeat → State → State
with_repeats os s = record { due = s.due; modal = s.modal; zeros = s.zeros; at = s.at; repeats = os; made = s.made }

abbrev pub due_at : ℕ → State → State
due_at k s = record { due = k; modal = s.modal; zeros = s.zeros; at = s.at; repeats = s.repeats; made = s.made }

abbrev pub moved_to : Axes ℤ → State → State
moved_to e s = record { due = s.due + 1; modal = s.modal; zeros = s.zeros; at = e; repeats = s.repeats; made = s.made + 1 }

abbrev pub goto : ℕ → State → Event
goto k s = goes None (due_at k s)

abbrev pub next : State → Event
next s = goto (s.due + 1) s
