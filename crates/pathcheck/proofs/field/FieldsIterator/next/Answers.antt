use Rattle.std.proofs.Common.{◌≡◌, ◌∷◌, length, sym, ap, subst, arith}
use Rattle.std.specs.Iterator.{YieldsFirstRef}
use Rattle.pathcheck.specs.Fields.{fields}
use Rattle.pathcheck.proofs.FieldLists.{no_field, first_field, field_ends}
use Rattle.pathcheck.proofs.field.FieldsIterator.next.Goals as goal

pub returns-in_err-start-clause-steps : goal.returns-in_err-start-clause-steps
returns-in_err-start-clause-steps c =
    let none = no_field c.args.self.now.0.now c.in_err-start.ensures.value in
    subst (λ r. YieldsFirstRef (λ s. fields s.0.now) c.args.self.now r c.args.self.now) (sym c.from_residual.ensures) (none, none)

pub split_at-requires-2 : goal.split_at-requires-2
split_at-requires-2 c = (field_ends c.split_at.result.1.now _ _ c.unwrap_or.ensures c.field_end.ensures.value).1

pub returns : goal.returns
returns c =
    let end = (field_ends c.split_at.result.1.now _ _ c.unwrap_or.ensures c.field_end.ensures.value).0 in
    let cut = first_field c.args.self.now.0.now c.in_ok-start.start c.in_ok-start.ensures.value in
    let first : fields c.args.self.now.0.now ≡ c.split_at-2.result.0.now ∷ fields c.split_at-2.result.1.now = cc in
    record { steps = first; goes = record { on = λ _. (tt, tt, omega (arith, ap length first)); keeps = tt; rests = λ _. tt } }
