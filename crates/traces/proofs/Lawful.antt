-- The laws of traces. Assumes nothing.
--     step_zero          where no more lines may run, a step is a refusal
--     runs_is            a trace follows from its first step, whatever the number of lines that may run
--     Ready s            what holds in every state of a run
--     Sound p s t        what holds of the rest of a trace, from the state s on
--     lawful             every trace keeps the laws
use Rattle.std.proofs.Common.{◌≡◌, ℕ, zero, suc, ◌+◌, ◌-◌, ◌<◌, ◌≤◌, Bool, true, false, cond, ltb, ◌⊎◌, List, length, ℤ, Some, None, Option, sym, refl, ap, ◌∙◌, subst, inl, inr, arith}
use Rattle.motions.specs.declared.axes.Axes.{Axes}
use Rattle.motions.specs.declared.refusal.Refusal.{Refusal}
use Rattle.rules.specs.Targets.{Said}
use Rattle.rules.specs.State.{Setup, State, Made, Event, goes, ends, refused, start}
use Rattle.rules.specs.Moves.{most_motions}
use Rattle.rules.specs.Steps.{most_lines, no_end, step}
use Rattle.traces.specs.Traces.{End, accepted, stopped, Trace, over, before, follow, too_many, runs, trace}
use Rattle.traces.specs.Laws.{Chain, Kept, IsLine, Placed, OfMotion, Told, EndTold, Leads, EndsIn, spent, Lawful}
use Rattle.traces.proofs.Follows.{Turned, Led, Follows, Stepped, step_is}

spent_by : (b : Bool) (r q : Refusal) → cond b (refused r) (refused q) ≡ refused (cond b r q)
spent_by true r q = refl
spent_by false r q = refl

before_end : (m : Option Made) (t : Trace) → (before m t).end ≡ t.end
before_end None t = refl
before_end (Some x) t = refl

pub record Ready (s : State) : Type 0 where
  pub due : 1 ≤ s.due
  pub made : s.made ≤ most_motions

module _ (p : List Said) where
  -- One step at a time

  pub step_zero : (s : State) → step 0 p s ≡ refused (spent p s)
  step_zero s = spent_by (ltb (length p) s.due) _ _

  pub runs_zero : (s : State) → runs 0 p s ≡ over (stopped (spent p s))
  unfolding runs
  runs_zero s = ap (follow too_many) (step_zero s)

  runs_suc : (n : ℕ) (s : State) → runs (suc n) p s ≡ follow (λ t. runs n p t) (step (suc n) p s)
  unfolding runs
  runs_suc n s = refl

  pub runs_is : (n : ℕ) (s : State) → runs n p s ≡ follow (λ t. runs (n - 1) p t) (step n p s)
  runs_is zero s = runs_zero s ∙ sym (ap (follow (λ t. runs (0 - 1) p t)) (step_zero s))
  runs_is (suc n) s = let e : n ≡ suc n - 1 = omega arith in runs_suc n s ∙ ap (λ k. follow (λ t. runs k p t) (step (suc n) p s)) e

  -- What every motion and every end keeps

  pub record Sound (s : State) (t : Trace) : Type 0 where
    pub chain : Chain s.at t.made
    pub kept : Kept t.made
    pub few : s.made + length t.made ≤ most_motions
    pub placed : Placed p t.made
    pub told : EndTold p (s.made + length t.made) t.end

  pub ready_after : (s : State) (m : Option Made) (u : State) → Ready s → Led p s m u → Ready u
  ready_after s None u r h = record { due = omega arith; made = omega arith }
  ready_after s (Some x) u r h = record { due = omega arith; made = omega arith }

  no_end_line : (n : ℕ) → length p ≡ n → IsLine p (length p) ⊎ ((length p ≡ 0) × (length p ≡ 0))
  no_end_line zero e = inr (e, e)
  no_end_line (suc n) e = inl (omega arith)

  no_end_told : (n : ℕ) → Told p n (no_end p)
  no_end_told n = record { line = no_end_line (length p) refl; motion = refl; reason = refl }

  module _ (s : State) (ready : Ready s) where
    before_sound : (due : s.due ≤ length p) (m : Option Made) (u : State) (t : Trace) → Led p s m u → Sound u t → Sound s (before m t)
    before_sound due None u t h g =
        let n : u.made + length t.made ≡ s.made + length t.made = omega arith in
        record {
          chain = subst (λ (a : Axes ℤ). Chain a t.made) h.at g.chain;
          kept = g.kept;
          few = omega arith;
          placed = g.placed;
          told = subst (λ (k : ℕ). EndTold p k t.end) n g.told;
        }
    before_sound due (Some x) u t h g =
        let n : u.made + length t.made ≡ s.made + suc (length t.made) = omega arith in
        record {
          chain = (h.start, subst (λ (a : Axes ℤ). Chain a t.made) h.end g.chain);
          kept = (h.kept, g.kept);
          few = omega arith;
          placed = (omega arith, g.placed);
          told = subst (λ (k : ℕ). EndTold p k t.end) n g.told;
        }

    over_sound : (e : End) → EndTold p (s.made + 0) e → Sound s (over e)
    over_sound e h = record { chain = tt; kept = tt; few = omega arith; placed = tt; told = h }

    turned_told : (r : Refusal) → s.due ≤ length p → Turned s r → Told p (s.made + 0) r
    turned_told r due h =
        let n : s.made + 1 ≡ s.made + 0 + 1 = omega arith in
        record { line = inl (omega arith); motion = h.motion ∙ ap (λ k. cond (OfMotion r.reason) k 0) n; reason = h.reason }

    pub refused_sound : (r : Refusal) → Stepped p s (refused r) → Sound s (over (stopped r))
    refused_sound r (inl h) =
        let e : no_end p ≡ r = cc in
        over_sound (stopped r) (subst (Told p (s.made + 0)) e (no_end_told (s.made + 0)))
    refused_sound r (inr h) = over_sound (stopped r) (turned_told r h.0 h.1)

  follow_by : (s : State) (e : Event) (more : State → Trace) → Ready s → ((u : State) → Ready u → Sound u (more u)) → s.due ≤ length p → Follows p s e → Sound s (follow more e)
  follow_by s (goes m u) more ready rest due h = before_sound s ready due m u (more u) h (rest u (ready_after s m u ready h))
  follow_by s (ends m u) more ready rest due h = before_sound s ready due m u (over accepted) h (over_sound u (ready_after s m u ready h) accepted tt)
  follow_by s (refused r) more ready rest due h = refused_sound s ready r (inr (due, h))

  pub follow_sound : (s : State) (e : Event) (more : State → Trace) → Ready s → ((u : State) → Ready u → Sound u (more u)) → Stepped p s e → Sound s (follow more e)
  follow_sound s e more ready rest (inl h) = subst (λ (f : Event). Sound s (follow more f)) (sym h.1) (refused_sound s ready (no_end p) (inl (h.0, refl)))
  follow_sound s e more ready rest (inr h) = follow_by s e more ready rest h.0 h.1

  pub runs_sound : (n : ℕ) (s : State) → Ready s → Sound s (runs n p s)
  runs_sound zero s ready = subst (Sound s) (sym (runs_zero s)) (refused_sound s ready (spent p s) (subst (Stepped p s) (step_zero s) (step_is p 0 s)))
  runs_sound (suc n) s ready = subst (Sound s) (sym (runs_suc n s)) (follow_sound s (step (suc n) p s) (λ t. runs n p t) ready (λ u r. runs_sound n u r) (step_is p (suc n) s))

  -- How many lines run

  -- the number of lines that may still run says only whether the one that is due may
  runs_goes : (n : ℕ) (s u : State) (m : Option Made) → step 1 p s ≡ goes m u → (runs (suc n) p s).end ≡ (runs n p u).end
  runs_goes n s u m e = ap (λ t. t.end) (runs_suc n s ∙ ap (follow (λ t. runs n p t)) e) ∙ before_end m (runs n p u)

  pub runs_last : (n : ℕ) (s t : State) → Leads p n s t → (runs n p s).end ≡ stopped (spent p t)
  runs_last zero s t e = ap (λ r. r.end) (runs_zero s) ∙ ap (λ r. stopped (spent p r)) e
  runs_last (suc n) s t l = runs_goes n s l.1 l.0 l.2 ∙ runs_last n l.1 t l.3

  abbrev Ended : ℕ → State → Type 0
  Ended n s = (k : ℕ) × (t : State) × (k < n) × Leads p k s t × EndsIn p t

  ended_by : (n : ℕ) (s : State) (e : Event) → step 1 p s ≡ e → ((u : State) → (runs n p u).end ≡ accepted → Ended n u) → (follow (λ t. runs n p t) e).end ≡ accepted → Ended (suc n) s
  ended_by n s (goes m u) f rest a =
      let h = rest u (sym (before_end m (runs n p u)) ∙ a) in
      (suc h.0, h.1, omega arith, (m, u, f, h.3), h.4)
  ended_by n s (ends m u) f rest a = (0, s, omega arith, refl, (m, u, f))
  ended_by n s (refused r) f rest a = absurd (let z : ◌≡◌ {A = ℕ} 0 1 = cc in omega arith)

  pub runs_within : (n : ℕ) (s : State) → (runs n p s).end ≡ accepted → Ended n s
  runs_within zero s a = let e = ap (λ r. r.end) (runs_zero s) in absurd (let z : ◌≡◌ {A = ℕ} 0 1 = cc in omega arith)
  runs_within (suc n) s a = ended_by n s (step 1 p s) refl (λ u b. runs_within n u b) (sym (ap (λ r. r.end) (runs_suc n s)) ∙ a)

pub lawful : (p : List Said) (u : Setup) → Lawful p u (trace p u)
lawful p u =
    let h = runs_sound p most_lines (start u) (record { due = omega arith; made = omega arith }) in
    let n : 0 + length (trace p u).made ≡ length (trace p u).made = omega arith in
    record {
      chain = h.chain;
      kept = h.kept;
      few = omega arith;
      placed = h.placed;
      told = subst (λ (k : ℕ). EndTold p k (trace p u).end) n h.told;
      last = λ s l. runs_last p most_lines (start u) s l;
      within = λ a. runs_within p most_lines (start u) a;
    }
