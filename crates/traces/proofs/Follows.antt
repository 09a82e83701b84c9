-- What a line comes to, seen from the state before it. Assumes nothing.
--     Onward p s t       after s the next line is due in t, or a line of p that a jump or a repeat names
--     Stayed p s t       a line that makes no motion leads from s to t
--     Moved p s m t      a line that makes the motion m leads from s to t
--     Turned s r         the line that is due in s is refused by r
--     Follows p s e      one of these, of the event e of a line; does_follows says it of every line
--     Stepped p s e      the same of a step: where no line is due any more, it is refused for having no end
use Rattle.std.proofs.Common.{◌≡◌, ℕ, zero, suc, ◌+◌, ◌-◌, ◌<◌, ◌≤◌, Bool, true, false, cond, not, ◌||◌, eqb, ltb, leb, ◌⊎◌, List, [], ◌∷◌, length, ℤ, Some, None, Option, unwrap_or, sym, refl, ap, inl, inr, arith}
use Rattle.std.proofs.lemmas.Bool.{cond_both, leb-false, ltb-true, ltb-false}
use Rattle.motions.specs.declared.refusal.Reason.{Reason}
use Rattle.motions.specs.declared.refusal.Reason.TheVariants.{MotionRange, ArcRule, ValueRange, NoTarget}
use Rattle.motions.specs.declared.refusal.Refusal.{Refusal}
use Rattle.motions.specs.declared.row.Row.{Row}
use Rattle.motions.specs.Motions.{row_in_range, keeps_arc_rule, fault}
use Rattle.sums.specs.Sums.{Sum}
use Rattle.forms.specs.Forms.{Named}
use Rattle.forms.specs.declared.said.Statement.{Statement}
use Rattle.forms.specs.declared.said.Statement.TheVariants as say
use Rattle.forms.specs.declared.said.Target.TheVariants.{Label}
use Rattle.forms.specs.declared.said.Words.{Words}
use Rattle.rules.specs.declared.state.Repeat.{Repeat}
use Rattle.rules.specs.Values.{value, valued}
use Rattle.forms.specs.Numbered.{numbered}
use Rattle.rules.specs.Targets.{Said, target}
use Rattle.rules.specs.State.{Modal, State, Made, Event, goes, ends, refused, or_refuse, with_modal, moved_to, goto, next}
use Rattle.rules.specs.Moves.{row_of, fault_by, fault_of, any_named, most_motions, stops, after, made_of, or_fault, moves, stays, settled, acts}
use Rattle.rules.specs.Steps.{new_limits, shifted, shift_from, with_limits, with_shift, sets, holds, jumps, most_repeats, opens, again, repeats_by, performs, does, says_of, no_end, runs_line, step}
use Rattle.traces.specs.Laws.{IsLine, OfRun, OfMotion}
use Rattle.traces.proofs.Meant.{Of, target_is_line}

abbrev pub Onward : List Said → State → State → Type 0
Onward p s t = (t.due ≡ s.due + 1) ⊎ IsLine p t.due

pub record Stayed (p : List Said) (s t : State) : Type 0 where
  pub at : t.at ≡ s.at
  pub made : t.made ≡ s.made
  pub due : Onward p s t

pub record Moved (p : List Said) (s : State) (m : Made) (t : State) : Type 0 where
  pub line : m.line ≡ s.due
  pub start : m.row.start ≡ s.at
  pub end : t.at ≡ m.row.end
  pub kept : fault m.row ≡ None
  pub room : s.made < most_motions
  pub made : t.made ≡ s.made + 1
  pub due : Onward p s t

pub record Turned (s : State) (r : Refusal) : Type 0 where
  pub line : r.line ≡ s.due
  pub motion : r.motion ≡ cond (OfMotion r.reason) (s.made + 1) 0
  pub reason : OfRun r.reason ≡ true

abbrev pub Led : List Said → State → Option Made → State → Type 0
Led p s None t = Stayed p s t
Led p s (Some m) t = Moved p s m t

abbrev pub Follows : List Said → State → Event → Type 0
Follows p s (goes m t) = Led p s m t
Follows p s (ends m t) = Led p s m t
Follows p s (refused r) = Turned s r

abbrev pub Stepped : List Said → State → Event → Type 0
Stepped p s e = ((length p < s.due) × (e ≡ refused (no_end p))) ⊎ ((s.due ≤ length p) × Follows p s e)

-- Whether a motion may be made

none_by : (r w k : Bool) → cond r (cond (w || not k) (Some ArcRule) None) (Some MotionRange) ≡ None → cond r (cond k None (Some ArcRule)) (Some MotionRange) ≡ None
none_by true true k e = absurd (let z : ◌≡◌ {A = ℕ} 0 1 = cc in omega arith)
none_by true false true e = refl
none_by true false false e = absurd (let z : ◌≡◌ {A = ℕ} 0 1 = cc in omega arith)
none_by false w k e = absurd (let z : ◌≡◌ {A = ℕ} 0 1 = cc in omega arith)

-- the rules of a line ask no less than the rules of motions
pub no_fault : (wrong : Bool) (m : Row) → fault_by wrong m ≡ None → fault m ≡ None
no_fault wrong m e = none_by (row_in_range m) wrong (keeps_arc_rule m) e

abbrev Faulty : Reason → Type 0
Faulty r = (OfRun r ≡ true) × (OfMotion r ≡ true)

faulty_by : (r w : Bool) → Of Faulty (cond r (cond w (Some ArcRule) None) (Some MotionRange))
faulty_by true true = (refl, refl)
faulty_by true false = tt
faulty_by false w = (refl, refl)

some_fault : (wrong : Bool) (m : Row) → Of Faulty (fault_by wrong m)
some_fault wrong m = faulty_by (row_in_range m) (wrong || not (keeps_arc_rule m))

-- Lines

module _ (p : List Said) where
  sets_follows : (s : State) (m : Modal) → Follows p s (sets m s)
  sets_follows s m = record { at = refl; made = refl; due = inl refl }

  next_follows : (s : State) → Follows p s (next s)
  next_follows s = record { at = refl; made = refl; due = inl refl }

  or_range : {A : Type 0} (s : State) (o : Option A) (k : A → Event) → ((a : A) → Follows p s (k a)) → Follows p s (or_refuse ValueRange s o k)
  or_range s None k f = record { line = refl; motion = refl; reason = refl }
  or_range s (Some a) k f = f a

  or_target : (s : State) (o : Option ℕ) (k : ℕ → Event) → Of (IsLine p) o → ((n : ℕ) → IsLine p n → Follows p s (k n)) → Follows p s (or_refuse NoTarget s o k)
  or_target s None k h f = record { line = refl; motion = refl; reason = refl }
  or_target s (Some n) k h f = f n h

  -- the functions of a line change neither the position nor what is counted
  as_settled : (s : State) (m : Modal) (e : Event) → Follows p (with_modal m s) e → Follows p s e
  as_settled s m (goes None t) h = record { at = h.at; made = h.made; due = h.due }
  as_settled s m (goes (Some x) t) h = record { line = h.line; start = h.start; end = h.end; kept = h.kept; room = h.room; made = h.made; due = h.due }
  as_settled s m (ends None t) h = record { at = h.at; made = h.made; due = h.due }
  as_settled s m (ends (Some x) t) h = record { line = h.line; start = h.start; end = h.end; kept = h.kept; room = h.room; made = h.made; due = h.due }
  as_settled s m (refused r) h = record { line = h.line; motion = h.motion; reason = h.reason }

  after_follows : (s : State) (stop : Bool) (m : Option Made) (t : State) → Led p s m t → Follows p s (after stop m t)
  after_follows s true m t h = h
  after_follows s false m t h = h

  or_fault_lem : (ws : Words ℤ) (s : State) (o : Option Reason) → fault_of ws s ≡ o → Of Faulty o → Follows p s (or_fault o s (after (stops ws.action) (Some (made_of ws s)) (moved_to (row_of ws s).end s)))
  or_fault_lem ws s None e h =
      cond_both (leb most_motions s.made) _ _ (Follows p s)
      (λ b. record { line = refl; motion = refl; reason = refl })
      (λ b. after_follows s (stops ws.action) (Some (made_of ws s)) (moved_to (row_of ws s).end s) (record {
        line = refl;
        start = refl;
        end = refl;
        kept = no_fault _ (row_of ws s) e;
        room = leb-false most_motions s.made b;
        made = refl;
        due = inl refl;
      }))
  or_fault_lem ws s (Some r) e h = record { line = refl; motion = ap (λ b. cond b (s.made + 1) 0) (sym h.1); reason = h.0 }

  moves_follows : (ws : Words ℤ) (s : State) → Follows p s (moves ws s)
  moves_follows ws s = or_fault_lem ws s (fault_of ws s) refl (some_fault _ (row_of ws s))

  stays_follows : (ws : Words ℤ) (s : State) → Follows p s (stays ws s)
  stays_follows ws s = after_follows s (stops ws.action) None _ (record { at = refl; made = refl; due = inl refl })

  acts_follows : (ws : Words ℤ) (s : State) → Follows p s (acts ws s)
  acts_follows ws s =
      cond_both (any_named ws.axes || any_named ws.centres) _ _ (Follows p s)
      (λ b. as_settled s _ (moves ws (settled ws s)) (moves_follows ws (settled ws s)))
      (λ b. as_settled s _ (stays ws (settled ws s)) (stays_follows ws (settled ws s)))

  jumps_follows : (taken : Bool) (o : Option ℕ) (s : State) → Of (IsLine p) o → Follows p s (jumps taken o s)
  jumps_follows false o s h = next_follows s
  jumps_follows true o s h = or_target s o (λ n. goto n s) h (λ n g. record { at = refl; made = refl; due = inr g })

  again_follows : (k left : ℕ) (os : List Repeat) (s : State) → IsLine p k → Follows p s (again k left os s)
  again_follows k zero os s h = record { at = refl; made = refl; due = inl refl }
  again_follows k (suc left) os s h = record { at = refl; made = refl; due = inr h }

  opens_follows : (k n : ℕ) (s : State) → IsLine p k → Follows p s (opens k n s)
  opens_follows k n s h =
      cond_both (ltb (length s.repeats) most_repeats) _ _ (Follows p s)
      (λ b. record { at = refl; made = refl; due = inr h })
      (λ b. record { line = refl; motion = refl; reason = refl })

  repeats_by_lem : (os : List Repeat) (k n : ℕ) (s : State) → IsLine p k → Follows p s (repeats_by os k n s)
  repeats_by_lem [] k n s h = opens_follows k n s h
  repeats_by_lem (o ∷ os) k n s h =
      cond_both (eqb o.line s.due) _ _ (Follows p s) (λ b. again_follows k o.left os s h) (λ b. opens_follows k n s h)

  pub performs_follows : (st : Statement ℤ Named) (s : State) → Follows p s (performs p st s)
  performs_follows say.Nothing s = next_follows s
  performs_follows (say.Words ws) s = acts_follows ws s
  performs_follows (say.Limits upper v) s = or_range s (new_limits upper v s.modal.limits) _ (λ l. sets_follows s (with_limits l s.modal))
  performs_follows (say.Dwell d) s = next_follows s
  performs_follows (say.Shift adds v) s = or_range s (shifted (shift_from adds s.modal.frame.shift) v) _ (λ t. sets_follows s (with_shift t s.modal))
  performs_follows (say.Assign k v) s = sets_follows s _
  performs_follows (say.Jump forward t test) s = jumps_follows (holds test) (target p forward t s.due) s (target_is_line p forward t s.due)
  performs_follows (say.Repeat l n) s = or_target s (target p false (Label l) (s.due - 1)) _ (target_is_line p false (Label l) (s.due - 1)) (λ k h. repeats_by_lem s.repeats k (unwrap_or n 1) s h)

  pub does_follows : (st : Statement Sum Named) (s : State) → Follows p s (does p st s)
  does_follows st s = or_range s (valued (value s.modal.params) st) _ (λ v. performs_follows v s)

  -- Steps

  runs_line_follows : (n : ℕ) (s : State) → Follows p s (runs_line n p s)
  runs_line_follows zero s = record { line = refl; motion = refl; reason = refl }
  runs_line_follows (suc n) s = does_follows (says_of (numbered p s.due)) s

  pub step_is : (n : ℕ) (s : State) → Stepped p s (step n p s)
  step_is n s =
      cond_both (ltb (length p) s.due) _ _ (Stepped p s)
      (λ b. inl (ltb-true (length p) s.due b, refl))
      (λ b. inr (ltb-false (length p) s.due b, runs_line_follows n s))
