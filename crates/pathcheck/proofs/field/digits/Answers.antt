use Rattle.std.proofs.Common.{◌≡◌, ◌<◌, ◌≤◌, ◌≤ℤ◌, ℤ, pos, FitsSigned, w32, true, false, length, Some, Option, IfSome, sym, ap, subst, ◌∙◌, add-one, pow-add, arith, rules}
use Rattle.std.specs.Option.{option_map}
use Rattle.std.specs.Result.{result_ok}
use Rattle.std.proofs.lemmas.Result.{Ok-from_Ok_iff}
use Rattle.pathcheck.proofs.DigitRuns.{spelled_step, spelled_end, spelled_whole, ten_most}
use Rattle.pathcheck.proofs.field.digits.Goals as goal

pub returns-then-not-is_ascii_digit-clause-value : goal.returns-then-not-is_ascii_digit-clause-value
returns-then-not-is_ascii_digit-clause-value c =
    let s = c.args.run.now in
    let l = c.loop-b in
    let some : 1 ≤ length s = search rules in
    ap (option_map pos) (sym (spelled_whole s some c.if-run-gt-MOST_DIGITS.false ∙ sym l.invariant.spelled ∙ spelled_step s l.b-index l.value false c.loop-b-test.true (sym c.if-not-is_ascii_digit.ensures.value)))

pub overflow_mul-value : goal.overflow_mul-value
overflow_mul-value c = let h : c.loop-b.value < 100000000 = ten_most c.loop-b.value c.loop-b.b-index 8 c.loop-b.invariant.below (omega arith) in search rules

pub overflow_add-value : goal.overflow_add-value
overflow_add-value c =
    let h : c.loop-b.value < 100000000 = ten_most c.loop-b.value c.loop-b.b-index 8 c.loop-b.invariant.below (omega arith) in
    search rules

pub loop-b-preserved : goal.loop-b-preserved
loop-b-preserved c =
    let l = c.loop-b in
    record {
      spelled = rw (add-one, c.from.ensures) (sym (spelled_step c.args.run.now l.b-index l.value true c.loop-b-test.true (sym c.if-not-is_ascii_digit.ensures.value)) ∙ l.invariant.spelled);
      below = omega (arith, pow-add 10 l.b-index 1, l.invariant.below, c.from.ensures, c.if-not-is_ascii_digit.ensures.cases);
    }

pub returns : goal.returns
returns c =
    let s = c.args.run.now in
    let l = c.loop-b in
    let v = l.value in
    let some : 1 ≤ length s = search rules in
    let few : v < 1000000000 = ten_most v l.b-index 9 l.invariant.below (omega arith) in
    let fits : FitsSigned w32 (pos v) = search rules in
    let made : c.ok.result ≡ Some (pos v) = c.ok.ensures.value ∙ ap result_ok (Ok-from_Ok_iff c.try_from.result (FitsSigned w32 (pos v)) (pos v) c.try_from.ensures fits) in
    record {
      value = made ∙ ap (option_map pos) (sym (spelled_whole s some c.if-run-gt-MOST_DIGITS.false ∙ sym l.invariant.spelled ∙ spelled_end s l.b-index v c.loop-b-test.false));
      bound = subst (λ (o : Option ℤ). IfSome o (λ z. pos 0 ≤ℤ z)) (sym made) (search rules);
    }
