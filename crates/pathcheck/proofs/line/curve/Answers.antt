use Rattle.std.proofs.Common.{◌≡◌, ℕ, List, ◌∷◌, rules, tests, ◌∙◌}
use Rattle.std.specs.Bool.{then_some}
use Rattle.motions.specs.declared.row.PathKind.TheVariants.{Arc as arc}
use Rattle.pathcheck.specs.declared.line.Asked.{Asked}
use Rattle.pathcheck.specs.Fields.{fields}
use Rattle.pathcheck.specs.Said.{curve_of}
use Rattle.pathcheck.proofs.line.curve.Goals as goal

pub returns : goal.returns
returns c =
    let asked : Asked = record { kind = arc (record { plane = c.in_ok-plane.plane; turn = c.args.turn; centre = c.in_ok-centre.centre }); end = c.in_ok-end.end } in
    let read : (f : List ℕ) → then_some c.is_none.result asked ≡ curve_of c.args.turn (f ∷ fields c.args.left.0.now) = λ f. search (rules, tests) in
    let made : c.then_some.result ≡ then_some c.is_none.result asked = search (rules, tests) in
    record { value = λ f. made ∙ read f }
