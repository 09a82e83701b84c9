-- What holds of every trace, in the words of the shop. Assumes nothing.
--     Chain at ms        each motion starts where the one before it ended, the first one at `at`
--     Kept ms            the numbers of each motion keep the rules of motions, so that it can be made again
--     IsLine p n         n is the number of a line of the program p
--     Placed p ms        each motion was made by a line of p
--     OfRun r            a reason for which the rules refuse a run; no area is asked
--     OfMotion r         a reason for which a motion is refused, and not its line alone
--     Told p n r         a refusal after n motions names a line of p, 0 only where there is none; and motion n + 1 where it refuses
--                        a motion, else none
--     Leads p k s t      k lines, run one after the other, lead from the state s to the state t
--     Lawful p u t       all of this of the trace t of p from u; and it takes at most 100,000 lines: where so many have run it ends with
--                        what comes after them, and where it is accepted, fewer had run before the line that ends it
use Rattle.std.specs.Prelude.{◌≡◌, ℕ, zero, suc, ◌+◌, ◌<◌, ◌≤◌, Bool, true, cond, ◌||◌, ◌⊎◌, List, [], ◌∷◌, length, ℤ, None, Option, ◌==◌, nat_lt}
use Rattle.motions.specs.declared.axes.Axes.{Axes}
use Rattle.motions.specs.declared.refusal.Reason.{Reason}
use Rattle.motions.specs.declared.refusal.Reason.TheVariants.{LinesRun}
use Rattle.motions.specs.declared.refusal.Refusal.{Refusal}
use Rattle.motions.specs.Motions.{fault}
use Rattle.motions.specs.Refusals.{number_of}
use Rattle.rules.specs.Targets.{Said}
use Rattle.rules.specs.State.{Setup, State, Made, goes, ends, start}
use Rattle.rules.specs.Moves.{most_motions}
use Rattle.rules.specs.Steps.{no_end, most_lines, step}
use Rattle.traces.specs.Traces.{End, accepted, stopped, Trace}

abbrev pub Chain : Axes ℤ → List Made → Type 0
Chain at [] = Unit {0}
Chain at (m ∷ ms) = (m.row.start ≡ at) × Chain m.row.end ms

abbrev pub Kept : List Made → Type 0
Kept [] = Unit {0}
Kept (m ∷ ms) = (fault m.row ≡ None) × Kept ms

abbrev pub IsLine : List Said → ℕ → Type 0
IsLine p n = (1 ≤ n) × (n ≤ length p)

abbrev pub Placed : List Said → List Made → Type 0
Placed p [] = Unit {0}
Placed p (m ∷ ms) = IsLine p m.line × Placed p ms

-- 3, 4, 5, 6, 7, 22, 23 and 26
abbrev pub OfRun : Reason → Bool
OfRun r =
    let n = number_of r in
    (n == 3) || (n == 4 || (n == 5 || (n == 6 || (n == 7 || (n == 22 || (n == 23 || n == 26))))))

-- 4, 5 and 23
abbrev pub OfMotion : Reason → Bool
OfMotion r = let n = number_of r in (n == 4) || (n == 5 || n == 23)

pub record Told (p : List Said) (n : ℕ) (r : Refusal) : Type 0 where
  pub line : IsLine p r.line ⊎ ((r.line ≡ 0) × (length p ≡ 0))
  pub motion : r.motion ≡ cond (OfMotion r.reason) (n + 1) 0
  pub reason : OfRun r.reason ≡ true

abbrev pub EndTold : List Said → ℕ → End → Type 0
EndTold p n accepted = Unit {0}
EndTold p n (stopped r) = Told p n r

abbrev pub Leads : List Said → ℕ → State → State → Type 0
Leads p zero s t = s ≡ t
Leads p (suc k) s t = (m : Option Made) × (u : State) × (step 1 p s ≡ goes m u) × Leads p k u t

-- the run ends with the line that is due in s
abbrev pub EndsIn : List Said → State → Type 0
EndsIn p s = (m : Option Made) × (t : State) × (step 1 p s ≡ ends m t)

-- what comes where no more lines may run: no line is due any more, or one is, which is one too many
abbrev pub spent : List Said → State → Refusal
spent p s = cond (nat_lt (length p) s.due) (no_end p) (record { reason = LinesRun; line = s.due; motion = 0 })

pub record Lawful (p : List Said) (u : Setup) (t : Trace) : Type 0 where
  pub chain : Chain u.at t.made
  pub kept : Kept t.made
  pub few : length t.made ≤ most_motions
  pub placed : Placed p t.made
  pub told : EndTold p (length t.made) t.end
  pub last : (s : State) → Leads p most_lines (start u) s → t.end ≡ stopped (spent p s)
  pub within : t.end ≡ accepted → (k : ℕ) × (s : State) × (k < most_lines) × Leads p k (start u) s × EndsIn p s
