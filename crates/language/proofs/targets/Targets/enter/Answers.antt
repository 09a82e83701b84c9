use Rattle.std.proofs.Common.{◌≡◌, ℕ, ◌≤◌, List, [], ◌∷◌, map, length, take, Err, vec_items, sym, refl, ap, ◌∙◌, ⊎_elim, arith}
use lib.ListN.{length-map}
use Rattle.std.proofs.lemmas.List.{nil_from_length}
use Rattle.std.proofs.lemmas.Result.{err_from_is_err_and, IfOk-from_err}
use Rattle.std.specs.Iterator.Adapters.{zip_first, zip_second}
use Rattle.std.specs.Slice.Iter.{iter_rest}
use Rattle.reading.specs.declared.program.Held.{Held}
use Rattle.reading.specs.declared.program.Program.{Program}
use Rattle.reading.specs.Reading.{said, held_text, held_lines}
use Rattle.rules.specs.Targets.{Said}
use Rattle.language.specs.Indexing.{room_of, rooms_of, enter_lines, answer}
use Rattle.language.proofs.Entering.{enter_none, lines_on, lines_stop, same_on, whole}
use Rattle.language.proofs.targets.Targets.enter.Goals as goal

few : (p : Program) → length (held_lines p) ≤ 2000
few p = omega (arith, length-map (vec_items p.lines) (said (held_text p)), p.lines.ok.0, p.few)

-- the lines that are left, where h is the next of them
next : (p : Program) (text : List ℕ) (h : Held) (hs ks : List Held) → text ≡ held_text p → hs ≡ h ∷ ks → said text h ∷ map (said (held_text p)) ks ≡ map (said (held_text p)) hs
next p text h hs ks is on = ap (λ (s : List ℕ). said s h ∷ map (said (held_text p)) ks) is ∙ ap (map (said (held_text p))) (sym on)

pub loop-held-init : goal.loop-held-init
loop-held-init c =
    let p = c.args.program.now in
    let f = said (held_text p) in
    let zip = c.zip-held-items.ensures in
    let it = c.into_iter-held-iterator.ensures.into_iter_gives in
    let number : (zip_second c.into_iter-held-iterator.result).start ≡ 1 = (λ j. (zip_second (it j)).start) ∙ (λ j. (zip.second j).start) in
    let rest : map f (iter_rest (zip_first c.into_iter-held-iterator.result)) ≡ held_lines p = (λ j. map f (iter_rest (zip_first (it j)))) ∙ (λ j. map f (iter_rest (zip.first j))) ∙ ap (map f) c.iter.ensures.rest ∙ c.lines.ensures.value in
    record {
      few = omega (arith, number, ap length rest, few p);
      left = λ j. enter_lines (number j) (rest j) (rooms_of c.args.self.now);
      same = ((refl, refl), (refl, refl));
    }

pub returns-in_err-enter_line : goal.returns-in_err-enter_line
returns-in_err-enter_line c =
    let p = c.args.program.now in
    let h = c.in-Some.held.now in
    let step = c.in-Some.ensures.steps in
    let was = rooms_of c.loop-held.self in
    let now = c.enter_line.new.self in
    let line = c.in_err-enter_line.ensures in
    let on = next p c.text.result.now h _ _ c.text.ensures.value step.0 in
    let done = lines_stop c.in-Some.number (said c.text.result.now h) _ was now c.in_err-enter_line.field-0.0 line.entered ∙ (λ j. enter_lines (step.1.0 j) (on j) was) ∙ c.loop-held.invariant.left in
    let out = err_from_is_err_and c.from_residual.result c.from_residual.ensures.1 in
    record {
      entered = record {
        numbers = line.entered.numbers ∙ ap (λ r. r.numbers) done;
        labels = line.entered.labels ∙ ap (λ r. r.labels) done;
        answer = out.1 ∙ ap (λ e. Err e) out.2 ∙ line.entered.answer ∙ ap (λ r. answer r.full) done;
      };
      whole = IfOk-from_err c.from_residual.result _ c.from_residual.ensures.0;
      same = same_on c.args.self.now c.loop-held.self now c.loop-held.invariant.same line.same;
    }

pub loop-held-preserved : goal.loop-held-preserved
loop-held-preserved c =
    let p = c.args.program.now in
    let h = c.in-Some.held.now in
    let step = c.in-Some.ensures.steps in
    let was = rooms_of c.loop-held.self in
    let now = c.enter_line.new.self in
    let rest = map (said (held_text p)) (iter_rest (zip_first c.next.new.self)) in
    let line = c.in_ok-enter_line.ensures in
    let on = next p c.text.result.now h _ _ c.text.ensures.value step.0 in
    record {
      few = omega (arith, step.1.0, step.1.1, ap length on, c.loop-held.invariant.few);
      left = ap (λ k. enter_lines k rest (rooms_of now)) step.1.1 ∙ lines_on c.in-Some.number (said c.text.result.now h) rest was now line.entered ∙ (λ j. enter_lines (step.1.0 j) (on j) was) ∙ c.loop-held.invariant.left;
      same = same_on c.args.self.now c.loop-held.self now c.loop-held.invariant.same line.same;
    }

pub returns : goal.returns
returns c =
    let p = c.args.program.now in
    let s = c.loop-held.held-iterator in
    let n = (zip_second s).start in
    let was = rooms_of c.loop-held.self in
    let none : map (said (held_text p)) (iter_rest (zip_first s)) ≡ [] = ⊎_elim (λ w. ap (map (said (held_text p))) (nil_from_length _ w.1.0)) (λ w. absurd (omega (arith, w.1.0, c.loop-held.invariant.few))) c.in-None.ensures.steps in
    let done = sym (ap (λ (ls : List Said). enter_lines n ls was) none ∙ enter_none n was) ∙ c.loop-held.invariant.left in
    let t = c.args.self.now in
    record {
      entered = record { numbers = ap (λ r. r.numbers) done; labels = ap (λ r. r.labels) done; answer = ap (λ r. answer r.full) done };
      whole = λ a b. whole (held_lines p) (room_of t.numbers) (room_of t.labels) (ap (λ k. take k t.numbers.room.now) a) (ap (λ k. take k t.labels.room.now) b) _ done;
      same = c.loop-held.invariant.same;
    }
