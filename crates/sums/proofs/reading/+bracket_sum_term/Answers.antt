use Rattle.std.proofs.Common.{◌≡◌, ℕ, ◌-◌, ◌≤◌, IfSome, Some, None, suc, sym, ap, ◌∙◌, subst, arith}
use Rattle.std.specs.Option.{option_map}
use Rattle.lexer.proofs.Values.{decimal_small}
use Rattle.lexer.specs.Numbers.{decimal_of}
use Rattle.lexer.specs.declared.number.Number.{Number}
use Rattle.lexer.specs.declared.token.Token.{Token}
use Rattle.lexer.specs.declared.token.Token.TheVariants.{Number as Numbered}
use Rattle.lexer.specs.Model.{ahead, left, token_is, num_is, Digital}
use Rattle.sums.specs.Sums.{bracket_of, term_of, more_of, worth, total}
use Rattle.sums.specs.Model.{weighed}
use Rattle.sums.proofs.Amounts.{ranged_small}
use Rattle.sums.proofs.Walks.{shut_by, bracket_shut, bracket_is, first_is, next_is, none_is, at_number, at_param}
use Rattle.sums.proofs.reading.+bracket_sum_term.Goals as goal

pub bracket-returns-then-depth-eq0-clause-walks : goal.bracket-returns-then-depth-eq0-clause-walks
bracket-returns-then-depth-eq0-clause-walks t c = ap (weighed (worth c.args.params.now.values)) (bracket_shut c.args.depth (ahead c.args.c) c.if-depth-eq0.true)

pub bracket-returns-in_default-clause-walks : goal.bracket-returns-in_default-clause-walks
bracket-returns-in_default-clause-walks t c =
    bracket_is c.args.params.now.values c.args.depth (ahead c.args.c) c.if-depth-eq0.false ∙ ap shut_by c.in_default.ensures.walks

pub bracket-returns-in_err-next-clause-walks : goal.bracket-returns-in_err-next-clause-walks
bracket-returns-in_err-next-clause-walks t c =
    bracket_is c.args.params.now.values c.args.depth (ahead c.args.c) c.if-depth-eq0.false
    ∙ ap shut_by c.in-Some.ensures.walks
    ∙ ap (option_map (λ ts. (c.in-Some.v, ts))) c.in_err-next.ensures.value
    ∙ sym (ap (option_map (λ y. (y.0, ahead y.1))) c.from_residual.ensures)

pub bracket-returns-clause-walks : goal.bracket-returns-clause-walks
bracket-returns-clause-walks t c =
    bracket_is c.args.params.now.values c.args.depth (ahead c.args.c) c.if-depth-eq0.false
    ∙ ap shut_by c.in-Some.ensures.walks
    ∙ ap (option_map (λ ts. (c.in-Some.v, ts))) c.in_ok-next.ensures.value

pub sum-loop-m-init : goal.sum-loop-m-init
sum-loop-m-init t c =
    let W = c.args.params.now.values in
    let d = c.args.depth in
    let led = c.lead-minus in
    let one = c.in-Some in
    let here = ahead one.after in
    let fuel = suc (left one.after) in (
      record { line = one.ensures.further.line ∙ led.ensures.line; fewer = omega (arith, led.ensures.moves, one.ensures.further.fewer) },
      record {
        fuel = fuel;
        above = omega arith;
        same =
            first_is W d (ahead c.args.c) (ahead led.result.1) led.result.0 led.ensures.start led.ensures.minus (Some (one.v, here)) one.ensures.walks
            ∙ ap (λ a. weighed (total W a) (more_of (λ v. term_of d v) fuel here)) (sym c.plus-acc.ensures.value);
      },
    )

pub sum-returns-in_default-term-clause-walks : goal.sum-returns-in_default-term-clause-walks
sum-returns-in_default-term-clause-walks t c =
    let told = c.in-Some-sign in
    let inv = c.loop-m.invariant.1 in
    inv.same ∙ next_is c.args.params.now.values c.args.depth (ahead c.loop-m.after) (ahead told.next) told.m told.ensures.value.0 told.ensures.value.1 c.loop-m.acc inv.fuel (omega (arith, inv.above)) None c.in_default-term.ensures.walks

pub sum-loop-m-preserved : goal.sum-loop-m-preserved
sum-loop-m-preserved t c =
    let W = c.args.params.now.values in
    let d = c.args.depth in
    let told = c.in-Some-sign in
    let on = told.ensures.value.2 in
    let one = c.in-Some-term in
    let far = one.ensures.further in
    let here = ahead one.end in
    let inv = c.loop-m.invariant in (
      record { line = far.line ∙ on.line ∙ inv.0.line; fewer = omega (arith, inv.0.fewer, on.fewer, far.fewer) },
      record {
        fuel = inv.1.fuel - 1;
        above = omega (arith, inv.1.above, on.fewer, far.fewer);
        same =
            inv.1.same
            ∙ next_is W d (ahead c.loop-m.after) (ahead told.next) told.m told.ensures.value.0 told.ensures.value.1 c.loop-m.acc inv.1.fuel (omega (arith, inv.1.above)) (Some (one.w, here)) one.ensures.walks
            ∙ ap (λ a. weighed (total W a) (more_of (λ v. term_of d v) (inv.1.fuel - 1) here)) (sym c.plus-acc-in-Some-sign.ensures.value);
      },
    )

pub sum-returns-clause-walks : goal.sum-returns-clause-walks
sum-returns-clause-walks t c =
    let inv = c.loop-m.invariant.1 in
    inv.same ∙ none_is c.args.params.now.values c.args.depth (ahead c.loop-m.after) c.in_default-sign.ensures.value c.loop-m.acc inv.fuel (omega (arith, inv.above))

-- a number that was read is at most 9,999,999.999
small_number : (t : Token) (n : Number) (v : ℕ) → t ≡ Numbered n → Digital t → Some v ≡ decimal_of (num_is n) → v ≤ 9999999999
small_number t n v e d is = subst (λ o. IfSome o (λ v. v ≤ 9999999999)) (sym is) (decimal_small (num_is n) (subst Digital e d))

pub term-returns-in_ok-v-in-Number-clause-walks : goal.term-returns-in_ok-v-in-Number-clause-walks
term-returns-in_ok-v-in-Number-clause-walks t c =
    let told = c.token.ensures.cut in
    let v = c.in_ok-v-in-Number.v in
    let is = c.in_ok-v-in-Number.ensures.value in
    let next = ahead c.token.result.1 in
    at_number c.args.params.now.values (ahead c.args.c) next (λ u. bracket_of c.args.depth u) told.rest (num_is c.in-Number.n) v (told.first ∙ ap token_is c.in-Number.is) is
    ∙ ap (λ o. Some (o, next)) (ranged_small v (small_number _ c.in-Number.n v c.in-Number.is told.digits is) ∙ sym c.try_from.ensures ∙ sym c.ok.ensures.value)

pub term-returns-in_ok-k-in-Word-clause-walks : goal.term-returns-in_ok-k-in-Word-clause-walks
term-returns-in_ok-k-in-Word-clause-walks t c =
    let told = c.token.ensures.cut in
    let next = ahead c.token.result.1 in
    at_param c.args.params.now.values (ahead c.args.c) next (λ u. bracket_of c.args.depth u) told.rest c.in-Word.l (num_is c.in-Word.n) c.in_ok-k-in-Word.k (told.first ∙ ap token_is c.in-Word.is) (sym c.if-not-is_letter.false ∙ c.is_letter.ensures.value) c.in_ok-k-in-Word.ensures.value
    ∙ ap (λ z. Some (Some z, next)) (sym c.get.ensures.value)
