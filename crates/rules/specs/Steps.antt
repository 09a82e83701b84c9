-- What a line does, and one step of a run. Assumes nothing.
--     new_limits upper v l   the limits l, with those that are named on one side; None where one is out of range
--     shifted old v      the shift old and what is added to it; None where it is then out of range
--     holds t            the comparison after IF, where there is one
--     repeats k n s      a repeat that goes to line k, n rounds in all
--     performs p st s    what the statement st does, its sums being values, in the program p
--     does p st s        the same of what a line says: all its sums have their values first
--     step n p s         one step of a run in which n more lines may run
use Rattle.std.specs.Prelude.{ℕ, zero, suc, ◌-◌, Bool, true, false, cond, not, List, [], ◌∷◌, length, ℤ, ◌+ℤ◌, Some, None, Option, ◌==◌, int_le, int_lt, nat_lt, slice_set}
use Rattle.std.specs.Option.{unwrap_or}
use Rattle.motions.specs.declared.axes.Axis.{Axis}
use Rattle.motions.specs.declared.axes.Axis.TheVariants.{X, Y, Z}
use Rattle.motions.specs.declared.axes.Axes.{Axes}
use Rattle.motions.specs.declared.limits.Limits.{Limits}
use Rattle.motions.specs.declared.refusal.Reason.TheVariants.{ValueRange, NoTarget, NoEnd, LinesRun, RepeatsOpen}
use Rattle.motions.specs.declared.refusal.Refusal.{Refusal}
use Rattle.motions.specs.Motions.{same}
use Rattle.motions.specs.Ranges.{within, position_range}
use Rattle.geometry.specs.Settings.{with_limit}
use Rattle.sums.specs.Sums.{Sum, ranged, ◌>>=◌}
use Rattle.forms.specs.Forms.{Named}
use Rattle.forms.specs.declared.said.Comparison.{Comparison}
use Rattle.forms.specs.declared.said.Comparison.TheVariants.{Same, Differs, Less, Greater, AtMost, AtLeast}
use Rattle.forms.specs.declared.said.Statement.{Statement}
use Rattle.forms.specs.declared.said.Statement.TheVariants as say
use Rattle.forms.specs.declared.said.Target.TheVariants.{Label}
use Rattle.forms.specs.declared.said.Test.{Test}
use Rattle.rules.specs.declared.state.Repeat.{Repeat}
use Rattle.forms.specs.Words.{Each}
use Rattle.rules.specs.Values.{value, valued}
use Rattle.forms.specs.Numbered.{numbered}
use Rattle.rules.specs.Targets.{Said, target}
use Rattle.rules.specs.State.{Modal, State, Event, refused, origin, refuse, or_refuse, with_modal, with_repeats, goto, next}
use Rattle.rules.specs.Moves.{acts}

-- ---- G25 and G26, TRANS and ATRANS, R

abbrev pub limit_on : (upper : Bool) → Axis → Option ℤ → Limits → Option Limits
limit_on upper a None l = Some l
limit_on upper a (Some v) l = cond (within position_range v) (Some (with_limit upper a (Some v) l)) None

abbrev pub new_limits : (upper : Bool) → Each ℤ → Limits → Option Limits
new_limits upper v l = limit_on upper X v.x l >>= (λ l. limit_on upper Y v.y l >>= (λ l. limit_on upper Z v.z l))

abbrev pub added : ℤ → Option ℤ → Option ℤ
added old None = Some old
added old (Some v) = ranged (old +ℤ v)

abbrev pub shifted : Axes ℤ → Each ℤ → Option (Axes ℤ)
shifted old v =
    added old.x v.x >>= (λ x. added old.y v.y >>= (λ y. added old.z v.z >>= (λ z. Some (record { x = x; y = y; z = z }))))

abbrev pub with_limits : Limits → Modal → Modal
with_limits l m = record { functions = m.functions; params = m.params; frame = m.frame; limits = l }

abbrev pub with_shift : Axes ℤ → Modal → Modal
with_shift t m = record { functions = m.functions; params = m.params; frame = record { slot = m.frame.slot; shift = t }; limits = m.limits }

abbrev pub with_param : ℕ → ℤ → Modal → Modal
with_param k v m = record { functions = m.functions; params = slice_set m.params k v; frame = m.frame; limits = m.limits }

abbrev pub sets : Modal → State → Event
sets m s = next (with_modal m s)

-- ---- jumps

abbrev pub compares : Comparison → ℤ → ℤ → Bool
compares Same a b = same a b
compares Differs a b = not (same a b)
compares Less a b = int_lt a b
compares Greater a b = int_lt b a
compares AtMost a b = int_le a b
compares AtLeast a b = int_le b a

abbrev pub holds : Option (Test ℤ) → Bool
holds None = true
holds (Some t) = compares t.how t.left t.right

abbrev pub jumps : (taken : Bool) → Option ℕ → State → Event
jumps false k s = next s
jumps true k s = or_refuse NoTarget s k (λ n. goto n s)

-- ---- REPEAT

-- how many repeats are open at most
abbrev pub most_repeats : ℕ
most_repeats = 8

abbrev pub opens : ℕ → ℕ → State → Event
opens k n s =
    cond (nat_lt (length s.repeats) most_repeats)
    (goto k (with_repeats (record { line = s.due; left = n - 1 } ∷ s.repeats) s))
    (refuse RepeatsOpen s)

-- the last one opened is the line's own
abbrev pub again : ℕ → ℕ → List Repeat → State → Event
again k zero os s = next (with_repeats os s)
again k (suc left) os s = goto k (with_repeats (record { line = s.due; left = left } ∷ os) s)

abbrev pub repeats_by : List Repeat → ℕ → ℕ → State → Event
repeats_by [] k n s = opens k n s
repeats_by (o ∷ os) k n s = cond (o.line == s.due) (again k o.left os s) (opens k n s)

abbrev pub repeats : ℕ → ℕ → State → Event
repeats k n s = repeats_by s.repeats k n s

-- ---- a line

-- TRANS starts from no shift
abbrev pub shift_from : (adds : Bool) → Axes ℤ → Axes ℤ
shift_from true old = old
shift_from false old = origin

abbrev pub performs : List Said → Statement ℤ Named → State → Event
performs p say.Nothing s = next s
performs p (say.Words ws) s = acts ws s
performs p (say.Limits upper v) s = or_refuse ValueRange s (new_limits upper v s.modal.limits) (λ l. sets (with_limits l s.modal) s)
performs p (say.Dwell d) s = next s
performs p (say.Shift adds v) s = or_refuse ValueRange s (shifted (shift_from adds s.modal.frame.shift) v) (λ t. sets (with_shift t s.modal) s)
performs p (say.Assign k v) s = sets (with_param k v s.modal) s
performs p (say.Jump forward t test) s = jumps (holds test) (target p forward t s.due) s
performs p (say.Repeat l n) s = or_refuse NoTarget s (target p false (Label l) (s.due - 1)) (λ k. repeats k (unwrap_or n 1) s)

abbrev pub does : List Said → Statement Sum Named → State → Event
does p st s = or_refuse ValueRange s (valued (value s.modal.params) st) (λ v. performs p v s)

-- ---- a step

-- how many lines a run runs at most
abbrev pub most_lines : ℕ
most_lines = 100000

-- what the line with a number says; nothing where there is none
abbrev pub says_of : Option Said → Statement Sum Named
says_of None = say.Nothing
says_of (Some l) = l.says

abbrev pub no_end : List Said → Refusal
no_end p = record { reason = NoEnd; line = length p; motion = 0 }

abbrev pub runs_line : ℕ → List Said → State → Event
runs_line zero p s = refuse LinesRun s
runs_line (suc n) p s = does p (says_of (numbered p s.due)) s

abbrev pub step : ℕ → List Said → State → Event
step n p s = cond (nat_lt (length p) s.due) (refused (no_end p)) (runs_line n p s)
