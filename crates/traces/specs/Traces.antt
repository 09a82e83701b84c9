-- The trace of a run: the motions that it makes, in order, and how it ends. Assumes nothing.
--     End                a run ends at M2 or M30, or by a refusal
--     Trace              the motions and the end
--     runs n p s         the trace from the state s on, while n more lines may run
--     trace p u          the trace of the program p from the setup u
use Rattle.std.specs.Prelude.{ℕ, zero, suc, List, [], ◌∷◌, Some, None, Option}
use Rattle.motions.specs.declared.refusal.Reason.TheVariants.{LinesRun}
use Rattle.motions.specs.declared.refusal.Refusal.{Refusal}
use Rattle.rules.specs.Targets.{Said}
use Rattle.rules.specs.State.{Setup, State, Made, Event, goes, ends, refused, start}
use Rattle.rules.specs.Steps.{most_lines, step}

pub data End : Type 0 where
  accepted : End
  stopped : Refusal → End

pub record Trace : Type 0 where
  pub made : List Made
  pub end : End

abbrev pub over : End → Trace
over e = record { made = []; end = e }

-- a motion, if there is one, before a trace
abbrev pub before : Option Made → Trace → Trace
before None t = t
before (Some m) t = record { made = m ∷ t.made; end = t.end }

abbrev pub follow : (State → Trace) → Event → Trace
follow more (goes m s) = before m (more s)
follow more (ends m s) = before m (over accepted)
follow more (refused r) = over (stopped r)

abbrev pub too_many : State → Trace
too_many s = over (stopped (record { reason = LinesRun; line = s.due; motion = 0 }))

unfoldable pub runs : ℕ → List Said → State → Trace
runs zero p s = follow too_many (step zero p s)
runs (suc n) p s = follow (λ t. runs n p t) (step (suc n) p s)

abbrev pub trace : List Said → Setup → Trace
trace p u = runs most_lines p (start u)
