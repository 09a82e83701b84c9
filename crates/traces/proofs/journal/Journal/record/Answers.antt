use Rattle.std.proofs.Common.{◌≡◌, ◌-◌, Bool, List, Err, sym, ap, ◌∙◌, subst, arith}
use Rattle.std.proofs.lemmas.Result.{err_from_is_err_and}
use Rattle.std.specs.Option.{option_map}
use Rattle.rules.specs.Model.{setup_is, made_is, state_in, left_in}
use Rattle.rules.specs.Moves.{after}
use Rattle.rules.specs.State.{Made as Moved}
use Rattle.traces.specs.Laws.{Lawful}
use Rattle.traces.specs.Model.{recorded, noted, trace_of}
use Rattle.traces.specs.Traces.{accepted, stopped, over, runs}
use Rattle.traces.proofs.Lawful.{lawful}
use Rattle.traces.proofs.Recording.{onto, closed, refused_is, ended_is, goes_is, led, has_room, counted_on}
use Rattle.traces.proofs.journal.Journal.record.Goals as goal

pub returns-in_err-step : goal.returns-in_err-step
returns-in_err-step g c =
    let p = g.S.Source.lines c.args.source.now in
    let u = setup_is c.args.setup.now in
    let ms = recorded c.lines.self in
    let r = c.in_err-step.field-0.0 in
    let out = err_from_is_err_and c.from_residual.result c.from_residual.ensures.1 in
    let told = out.1 ∙ ap (λ e. Err e) out.2 in
    let whole = ap (trace_of c.lines.self) told ∙ closed ms (stopped r) ∙ sym (refused_is p (left_in c.lines.run) (state_in c.lines.run) ms r c.in_err-step.ensures.value) ∙ c.lines.invariant.0 in
    record { value = whole; law = subst (Lawful p u) (sym whole) (lawful p u) }

pub note-requires : goal.note-requires
note-requires g c =
    let p = g.S.Source.lines c.args.source.now in
    let s = state_in c.lines.run in
    let made = c.in_ok-step.step.made in
    let l = led p (left_in c.lines.run) s (recorded c.lines.self) c.in_ok-step.step.ended (option_map made_is made) (state_in c.step.new.self) c.in_ok-step.ensures.value in
    has_room p s (state_in c.step.new.self) made (noted c.lines.self) l c.lines.invariant.1

pub returns-then-step : goal.returns-then-step
returns-then-step g c =
    let p = g.S.Source.lines c.args.source.now in
    let u = setup_is c.args.setup.now in
    let ms = recorded c.lines.self in
    let m = option_map made_is c.in_ok-step.step.made in
    let t = state_in c.step.new.self in
    let event = ap (λ (b : Bool). after b m t) (sym c.if-step.true) ∙ c.in_ok-step.ensures.value in
    let whole = closed (recorded c.note.new.self) accepted ∙ ap (λ (l : List Moved). onto l (over accepted)) c.note.ensures.value ∙ sym (ended_is p (left_in c.lines.run) (state_in c.lines.run) ms m t event) ∙ c.lines.invariant.0 in
    record { value = whole; law = subst (Lawful p u) (sym whole) (lawful p u) }

pub lines-preserved : goal.lines-preserved
lines-preserved g c =
    let p = g.S.Source.lines c.args.source.now in
    let ms = recorded c.lines.self in
    let made = c.in_ok-step.step.made in
    let m = option_map made_is made in
    let s = state_in c.lines.run in
    let t = state_in c.step.new.self in
    let event = ap (λ (b : Bool). after b m t) (sym c.if-step.false) ∙ c.in_ok-step.ensures.value in
    let fewer : left_in c.step.new.self ≡ left_in c.lines.run - 1 = omega (arith, c.in_ok-step.ensures.left) in
    let l = led p (left_in c.lines.run) s ms c.in_ok-step.step.ended m t c.in_ok-step.ensures.value in (
      (λ i. onto (c.note.ensures.value i) (runs (fewer i) p t)) ∙ sym (goes_is p (left_in c.lines.run) s ms m t event) ∙ c.lines.invariant.0,
      c.note.ensures.count ∙ counted_on p s t made (noted c.lines.self) l c.lines.invariant.1,
    )
