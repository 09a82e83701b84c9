use Rattle.std.proofs.Common.{◌≡◌, ℕ, List, Some, None, Ok, Option, Result, take, drop, ap, ◌∙◌, arith}
use Rattle.motions.specs.declared.refusal.Refusal.{Refusal}
use Rattle.forms.specs.declared.said.Place.{Place}
use Rattle.index.specs.declared.entry.Entry.{Entry}
use Rattle.index.specs.declared.index.Index.{Index}
use Rattle.language.specs.Indexing.{Room, room_of, free, enter_all, answer}
use Rattle.reading.specs.Reading.{held_lines}
use Rattle.rules.specs.State.{Setup}
use Rattle.rules.specs.Targets.{Said}
use Rattle.traces.specs.Model.{trace_of}
use Rattle.traces.specs.Traces.{trace}
use Rattle.traces.specs.declared.journal.Journal.{Journal}
use Rattle.tracelist.specs.Start.{shop_setup}
use Rattle.tracelist.specs.Told.{Told, ToldBy}
use Rattle.tracelist.proofs.telling.run.Goals as goal

-- where every target was entered, the trace is told
entered : (p : List Said) (n n' : Room ℕ) (b b' : Room Place) (j : Journal) (r : Result (Unit {0}) Refusal) → n' ≡ n → b' ≡ b → Ok tt ≡ answer (enter_all p n' b').full → trace_of j r ≡ trace p shop_setup → Told p n b j r
entered p n n' b b' j r en eb e t = go (enter_all p n b).full (e ∙ (λ i. answer (enter_all p (en i) (eb i)).full))
  where
    go : (o : Option ℕ) → Ok tt ≡ answer o → ToldBy o p j r
    go None h = t
    go (Some k) h = absurd (let z : ◌≡◌ {A = ℕ} 0 1 = cc in omega arith)

-- an index that was just made over a room
opened : {K : Type 0} (i : Index K) (es : List (Entry K)) → i.used ≡ 0 → i.room.now ≡ es → room_of i ≡ free es
opened i es none is = λ j. record { entered = take (none j) (is j); rest = drop (none j) (is j) }

pub returns : goal.returns
returns c =
    let p = held_lines c.args.program.now in
    let numbers = c.new.ensures in
    let labels = c.new-2.ensures in
    record {
      value = entered p _ _ _ _ c.record.new.self c.record.result (opened c.new.result _ numbers.empty numbers.room) (opened c.new-2.result _ labels.empty labels.room) c.in_ok-enter.ensures.entered.answer
          (c.record.ensures.value ∙ ap (λ (u : Setup). trace p u) c.setup.ensures.value);
    }
