use Rattle.std.proofs.Common.{pos, Some, sym, ap, ◌∙◌}
use Rattle.sums.specs.Sums.{total, worth, plus}
use Rattle.sums.specs.Model.{value_is}
use Rattle.sums.proofs.Amounts.{signed_alike}
use Rattle.sums.proofs.reading.worth.Goals as goal

pub returns-in-Number : goal.returns-in-Number
unfolding total worth
returns-in-Number c =
    let n = c.in-Number in
    record { value = c.plus.ensures.value ∙ ap (plus n.minus (Some (pos 0))) (c.ok-given.ensures.value ∙ c.try_from.ensures) ∙ signed_alike n.minus n.thousandths ∙ sym (ap (λ v. total c.args.params.now.values (Some (pos 0)) (value_is c.args.line.now v)) n.is) }
