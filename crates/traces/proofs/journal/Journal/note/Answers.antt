use Rattle.std.proofs.Common.{[], ◌∷◌, map, vec_items, Option, sym, ap, ◌∙◌}
use Rattle.std.proofs.lemmas.List.{map-append}
use Rattle.std.specs.Option.{option_map}
use Rattle.rules.specs.declared.run.Made.{Made}
use Rattle.rules.specs.Model.{made_is}
use Rattle.traces.specs.Model.{recorded, noted, with_next, counted_with}
use Rattle.traces.proofs.journal.Journal.note.Goals as goal

pub returns-in-Some : goal.returns-in-Some
returns-in-Some c =
    let j = c.args.self.now in
    let put = c.push_reserved.ensures in
    record {
      value = ap (map made_is) put.items ∙ map-append made_is (vec_items j.made) (c.in-Some.made ∷ [])
          ∙ ap (λ (o : Option Made). with_next (recorded j) (option_map made_is o)) (sym c.in-Some.is);
      count = put.len ∙ ap (λ (o : Option Made). counted_with o (noted j)) (sym c.in-Some.is);
    }
