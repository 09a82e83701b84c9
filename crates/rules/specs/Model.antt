-- What the values of the code stand for. Assumes nothing.
--     in_reach b z       the number z, where it lies from -b to b
--     each_in_reach t    the three of t, where each is a coordinate in range
--     centre_in_reach, kind_in_reach, row_in_reach  the same of a centre, of the centre of an arc, of the end and the centre of a row
--     row_at s f ws, misplaced_at s ws   the row of the line ws made from where s stands, f counting, and whether I, J or K is misplaced in it
--     Judged wrong m r   r is what is answered to the row m, misplaced words or not: its motion, or its fault
--     open_of o          the open repeats, the last one opened first
--     last_of os, before_last os   the last one opened, and the others
--     with_last r os     os with r in the place of the last one opened
--     Opened r os after a     opening r turned the open repeats os into `after` and answered a
--     setup_is u, made_is m, state_of s  what a setup, a motion made and the state of a run stand for
--     line_after g n     the line at which a run goes on that goes g from line n
--     came_to n s r      what line n came to that left the state s, itself still due, and answered r
--     event_of s r       what a line came to that left the state s and answered r
--     state_in r, left_in r, event_in r a  where a run stands, how many more lines may run, and what a line came to that it answered a
--     Counted r t a      a line that was not refused counts as run; a refused one leaves the run as it was
--     Unchanged s t r    where r is a refusal, the state t stands for what s stood for before it
use Rattle.std.specs.Prelude.{◌≡◌, ℕ, zero, suc, ◌+◌, ◌<◌, Bool, cond, ◌&&◌, List, [], ◌∷◌, length, ℤ, Some, None, Ok, Err, Option, Result, slice_index_or}
use Rattle.std.specs.Option.{option_map}
use Rattle.motions.specs.declared.axes.Axes.{Axes}
use Rattle.algebra.specs.declared.vector.Vector.{Vector}
use Rattle.motions.specs.declared.motion.Motion.{Motion}
use Rattle.motions.specs.declared.refusal.Reason.{Reason}
use Rattle.motions.specs.declared.row.PathKind.{PathKind}
use Rattle.motions.specs.declared.row.Row.{Row}
use Rattle.motions.specs.Model.{row_of as row_is}
use Rattle.motions.specs.Motions.{centre_in_range}
use Rattle.motions.specs.Ranges.{within, each_within, position_range, centre_range}
use Rattle.geometry.specs.Model.{limits_of}
use Rattle.motions.specs.Model.{home_of}
use Rattle.motions.specs.declared.refusal.Refusal.{Refusal}
use Rattle.forms.specs.declared.said.Words.{Words}
use Rattle.rules.specs.declared.open.OpenRepeats.{OpenRepeats}
use Rattle.rules.specs.declared.paths.Standing.{Standing}
use Rattle.rules.specs.declared.run.Done.{Done}
use Rattle.rules.specs.declared.run.Goes.{Goes}
use Rattle.rules.specs.declared.run.Goes.TheVariants.{On, To}
use Rattle.rules.specs.declared.run.Made.{Made}
use Rattle.rules.specs.declared.run.Run.{Run}
use Rattle.rules.specs.declared.run.RunState.{RunState}
use Rattle.rules.specs.declared.run.Setup.{Setup}
use Rattle.rules.specs.declared.run.Step.{Step}
use Rattle.rules.specs.declared.state.Frame.{Frame}
use Rattle.rules.specs.declared.state.Repeat.{Repeat}
use Rattle.rules.specs.Moves.{misplaced, row_from, fault_by, after}
use Rattle.rules.specs.State as rules
use Rattle.rules.specs.Steps.{most_repeats}

abbrev pub no_repeat : Repeat
no_repeat = record { line = 0; left = 0 }

abbrev pub in_reach : ℕ → ℤ → Option ℤ
in_reach b z = cond (within b z) (Some z) None

abbrev pub each_in_reach : Axes ℤ → Option (Axes ℤ)
each_in_reach t = cond (each_within position_range t) (Some t) None

abbrev pub centre_in_reach : Vector → Option Vector
centre_in_reach c = cond (within centre_range c.u && within centre_range c.v) (Some c) None

abbrev pub kind_in_reach : PathKind → Option PathKind
kind_in_reach k = cond (centre_in_range k) (Some k) None

abbrev pub row_in_reach : Row → Option Row
row_in_reach m = cond (each_within position_range m.end && centre_in_range m.kind) (Some m) None

abbrev pub row_at : Standing → Frame → Words ℤ → Row
row_at s f ws = row_from s.functions.now f s.zeros.now s.at ws

abbrev pub misplaced_at : Standing → Words ℤ → Bool
misplaced_at s ws = misplaced s.functions.now.interpolation s.functions.now.plane ws.centres

abbrev pub Judged : Bool → Row → Result Motion Reason → Type 0
Judged wrong m (Ok made) = (fault_by wrong m ≡ None) × (row_is made ≡ m)
Judged wrong m (Err reason) = fault_by wrong m ≡ Some reason

-- the first n rows, the last of them first
abbrev pub stacked : List Repeat → ℕ → List Repeat
stacked rows zero = []
stacked rows (suc n) = slice_index_or rows n no_repeat ∷ stacked rows n

abbrev pub open_of : OpenRepeats → List Repeat
open_of o = stacked o.rows o.used

abbrev pub last_of : {A : Type 0} → List A → Option A
last_of [] = None
last_of (o ∷ os) = Some o

abbrev pub before_last : {A : Type 0} → List A → List A
before_last [] = []
before_last (o ∷ os) = os

abbrev pub with_last : {A : Type 0} → A → List A → List A
with_last r [] = []
with_last r (o ∷ os) = r ∷ os

-- one more is open where there was room; else none
abbrev pub Opened : {U E : Type 0} → Repeat → List Repeat → List Repeat → Result U E → Type 0
Opened r os after (Ok u) = (length os < most_repeats) × (after ≡ r ∷ os)
Opened r os after (Err e) = length os ≡ most_repeats

abbrev pub setup_is : Setup → rules.Setup
setup_is u = record { limits = limits_of u.limits; zeros = u.zeros; at = home_of u.at }

abbrev pub made_is : Made → rules.Made
made_is m = record { line = m.line; row = row_is m.motion; limits = limits_of m.limits; watched = m.watched }

abbrev pub state_of : RunState → rules.State
state_of s = record {
  due = s.due;
  modal = record { functions = s.functions; params = s.params.values; frame = s.frame; limits = limits_of s.limits };
  zeros = s.zeros;
  at = s.at;
  repeats = open_of s.repeats;
  made = s.made;
}

abbrev pub line_after : Goes → ℕ → ℕ
line_after On n = n + 1
line_after (To k) n = k

abbrev pub came_to : ℕ → RunState → Result Done Refusal → rules.Event
came_to n s (Ok d) = after d.step.ended (option_map made_is d.step.made) (rules.due_at (line_after d.goes n) (state_of s))
came_to n s (Err e) = rules.refused e

abbrev pub event_of : RunState → Result Step Refusal → rules.Event
event_of s (Ok d) = after d.ended (option_map made_is d.made) (state_of s)
event_of s (Err e) = rules.refused e

abbrev pub Unchanged : {A : Type 0} → RunState → RunState → Result A Refusal → Type 0
Unchanged s t (Ok d) = Unit {0}
Unchanged s t (Err e) = state_of t ≡ state_of s

abbrev pub state_in : Run → rules.State
state_in r = state_of r.state

abbrev pub left_in : Run → ℕ
left_in r = r.left

abbrev pub event_in : Run → Result Step Refusal → rules.Event
event_in r a = event_of r.state a

abbrev pub Counted : Run → Run → Result Step Refusal → Type 0
Counted r t (Ok d) = left_in r ≡ left_in t + 1
Counted r t (Err e) = (left_in t ≡ left_in r) × (state_in t ≡ state_in r)
