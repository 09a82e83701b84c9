use Rattle.std.proofs.Common.{◌++◌, map, length, vec_items, None, sym, ap, ◌∙◌, subst, arith}
use Rattle.std.proofs.lemmas.List.{append-nil}
use Rattle.reading.specs.Lines.{lines_of, lines_left}
use Rattle.reading.specs.Reading.{lines as whole, said}
use Rattle.reading.proofs.Lined.{all_placed, few_lines}
use Rattle.reading.proofs.Telling.{InText, all_in_text, all_said, said_by, said_on}
use Rattle.reading.proofs.read.fill.Goals as goal

pub loop-line-init : goal.loop-line-init
loop-line-init c =
    let s = c.args.text.now in
    let left = ap lines_left c.into_iter-line-iterator.ensures.into_iter_gives ∙ c.of-line-items.ensures.value in
    record {
      next = tt;
      ends = tt;
      room = omega (arith, c.clear.ensures.capacity, c.requires.room);
      few = omega (arith, c.clear.ensures.len, ap length left);
      inside = subst (InText s) (sym left) (all_in_text s 0 (lines_of s));
      said = λ j. map (said s) (c.clear.ensures.items j) ++ said_by (left j);
    }

pub push_reserved-requires : goal.push_reserved-requires
push_reserved-requires c =
    let s = c.args.text.now in
    omega (arith, ap length c.in-Some.ensures.steps, c.loop-line.invariant.few, all_placed s 0 (lines_of s), few_lines s c.requires.fits, c.loop-line.invariant.room)

pub loop-line-preserved : goal.loop-line-preserved
loop-line-preserved c =
    let s = c.args.text.now in
    let was = c.loop-line.invariant in
    let on = c.in-Some.ensures.steps in
    record {
      next = tt;
      ends = tt;
      room = was.room;
      few = omega (arith, ap length on, was.few);
      inside = (subst (InText s) on was.inside).1;
      said = said_on _ _ _ _ _ on was.said None c.in_default.ensures.value;
    }

pub returns-clause-value : goal.returns-clause-value
returns-clause-value c g =
    let s = c.args.text.now in
    let so_far = map (said s) (vec_items c.loop-line.lines) in
    all_said s 1 0 (lines_of s) g ∙ ap whole (sym c.loop-line.invariant.said ∙ ap (λ ps. so_far ++ said_by ps) c.in-None.ensures.steps.0 ∙ append-nil so_far)

pub returns-clause-few : goal.returns-clause-few
returns-clause-few c = let s = c.args.text.now in omega (arith, c.loop-line.invariant.few, all_placed s 0 (lines_of s), few_lines s c.requires.fits)
