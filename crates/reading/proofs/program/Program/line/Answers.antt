use Rattle.std.proofs.Common.{vec_items, sym, ap, ◌∙◌, arith}
use Rattle.std.proofs.lemmas.Option.{slice_get-map}
use Rattle.std.specs.List.{slice_get}
use Rattle.std.specs.Option.{option_map}
use Rattle.reading.specs.Reading.{said, held_text, held_lines}
use Rattle.reading.proofs.Counted.{gotten, numbered_is}
use Rattle.reading.proofs.program.Program.line.Goals as goal

pub returns : goal.returns
returns c =
    let p = c.args.self.now in
    let f = said (held_text p) in
    let i = c.in_ok-before.before in
    let got = gotten c.deref.result.now i c.get.result c.get.ensures.lookup.0 c.get.ensures.lookup.1 in
    record {
      value =
          ap (option_map f) (c.copied.ensures ∙ got ∙ ap (λ xs. slice_get xs i) c.deref.ensures.value)
          ∙ sym (slice_get-map f (vec_items p.lines) i)
          ∙ sym (numbered_is (held_lines p) c.args.number i (omega (arith, c.in_ok-before.ensures)) (omega (arith, c.in_ok-before.ensures)));
    }
