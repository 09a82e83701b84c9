-- A trace that is recorded motion by motion. Assumes nothing.
--     onto ms t          the trace t after the motions ms
use Rattle.std.proofs.Common.{◌≡◌, ℕ, ◌+◌, ◌-◌, Bool, true, false, List, [], ◌∷◌, ◌++◌, Some, None, Option, sym, refl, ap, ◌∙◌, subst, inl, inr, append_assoc, append-nil, arith}
use Rattle.std.specs.Option.{option_map}
use Rattle.motions.specs.declared.refusal.Refusal.{Refusal}
use Rattle.rules.specs.declared.run.Made.{Made as CodeMade}
use Rattle.rules.specs.Model.{made_is}
use Rattle.rules.specs.Moves.{after}
use Rattle.rules.specs.State.{State, Made, refused}
use Rattle.rules.specs.Steps.{step}
use Rattle.rules.specs.Targets.{Said}
use Rattle.traces.specs.Model.{with_next, HasRoom, counted_with}
use Rattle.traces.specs.Traces.{End, accepted, stopped, Trace, over, before, follow, runs}
use Rattle.traces.proofs.Follows.{Led, Stepped, step_is}
use Rattle.traces.proofs.Lawful.{runs_is}

abbrev pub onto : List Made → Trace → Trace
onto ms t = record { made = ms ++ t.made; end = t.end }

onto_before : (ms : List Made) (m : Option Made) (t : Trace) → onto ms (before m t) ≡ onto (with_next ms m) t
onto_before ms None t = refl
onto_before ms (Some m) t = ap (λ (l : List Made). record { made = l; end = t.end }) (sym (append_assoc ms (m ∷ []) t.made))

pub closed : (ms : List Made) (e : End) → record { made = ms; end = e } ≡ onto ms (over e)
closed ms e = ap (λ (l : List Made). record { made = l; end = e }) (sym (append-nil ms))

module _ (p : List Said) (n : ℕ) (s : State) (ms : List Made) where
  -- the line is refused
  pub refused_is : (r : Refusal) → refused r ≡ step n p s → onto ms (runs n p s) ≡ onto ms (over (stopped r))
  refused_is r e = ap (onto ms) (runs_is p n s ∙ ap (follow (λ t. runs (n - 1) p t)) (sym e))

  module _ (m : Option Made) (t : State) where
    -- the run ends with the line
    pub ended_is : after true m t ≡ step n p s → onto ms (runs n p s) ≡ onto (with_next ms m) (over accepted)
    ended_is e = ap (onto ms) (runs_is p n s ∙ ap (follow (λ t. runs (n - 1) p t)) (sym e)) ∙ onto_before ms m (over accepted)

    -- the run goes on
    pub goes_is : after false m t ≡ step n p s → onto ms (runs n p s) ≡ onto (with_next ms m) (runs (n - 1) p t)
    goes_is e = ap (onto ms) (runs_is p n s ∙ ap (follow (λ t. runs (n - 1) p t)) (sym e)) ∙ onto_before ms m (runs (n - 1) p t)

  -- what the line led to
  pub led : (stop : Bool) (m : Option Made) (t : State) → after stop m t ≡ step n p s → Led p s m t
  led stop m t e = go stop (subst (Stepped p s) (sym e) (step_is p n s))
    where
      go : (stop : Bool) → Stepped p s (after stop m t) → Led p s m t
      go true (inl h) = absurd (let z : ◌≡◌ {A = ℕ} 0 1 = cc in omega arith)
      go true (inr h) = h.1
      go false (inl h) = absurd (let z : ◌≡◌ {A = ℕ} 0 1 = cc in omega arith)
      go false (inr h) = h.1

-- how many motions there are once the line's is recorded
module _ (p : List Said) (s t : State) (made : Option CodeMade) (k : ℕ) (l : Led p s (option_map made_is made) t) (e : k ≡ s.made) where
  pub has_room : HasRoom made k
  has_room = go made l
    where
      go : (o : Option CodeMade) → Led p s (option_map made_is o) t → HasRoom o k
      go None h = tt
      go (Some m) h = omega (arith, h.room)

  pub counted_on : counted_with made k ≡ t.made
  counted_on = go made l
    where
      go : (o : Option CodeMade) → Led p s (option_map made_is o) t → counted_with o k ≡ t.made
      go None h = e ∙ sym h.made
      go (Some m) h = ap (λ j. j + 1) e ∙ sym h.made
