use Rattle.std.proofs.Common.{◌≡◌, ℕ, List, [], ◌∷◌, get_or, Some, Option, sym, ap, ◌∙◌}
use Rattle.pathcheck.specs.declared.line.Asked.{Asked}
use Rattle.pathcheck.specs.declared.line.Command.{Command}
use Rattle.pathcheck.specs.declared.line.Command.TheVariants.{Straight, Curve}
use Rattle.pathcheck.specs.Fields.{fields}
use Rattle.pathcheck.specs.Said.{command_of, asked, said}
use Rattle.pathcheck.proofs.line.said.Goals as goal

-- the command k in the first field f, with the other fields, is what the line s says
opened_by : (s f : List ℕ) (others : List (List ℕ)) (k : Command) (r : Option Asked) → fields s ≡ f ∷ others → Some k ≡ command_of f → r ≡ asked (Some k) (f ∷ others) → r ≡ said s
opened_by s f others k r split is follows =
    follows ∙ ap (λ o. asked o (f ∷ others)) is ∙ ap (λ (fs : List (List ℕ)). asked (command_of (get_or fs 0 [])) fs) (sym split)

pub returns-in-Straight : goal.returns-in-Straight
returns-in-Straight c =
    let f = c.in_ok-next.field-0.now in
    record { value = opened_by c.args.line.now f _ (Straight c.in-Straight.kind) _ c.in_ok-next.ensures.steps (sym (ap Some c.in-Straight.is) ∙ c.in_ok-kind.ensures.value) (c.straight.ensures.value f) }

pub returns-in-Curve : goal.returns-in-Curve
returns-in-Curve c =
    let f = c.in_ok-next.field-0.now in
    record { value = opened_by c.args.line.now f _ (Curve c.in-Curve.turn) _ c.in_ok-next.ensures.steps (sym (ap Some c.in-Curve.is) ∙ c.in_ok-kind.ensures.value) (c.curve.ensures.value f) }
