use Rattle.std.proofs.Common.{◌-◌, Some, None, ◌∙◌, arith, rules}
use Rattle.forms.proofs.Gather.{at_the_end, no_word, one_word_lem}
use Rattle.forms.proofs.word.words.Goals as goal

pub returns-in_err-w : goal.returns-in_err-w
returns-in_err-w c =
    let loop = c.loop-place in
    record { value = loop.invariant.said None (λ f h. no_word c.args.c.line.now loop.all loop.place f (omega arith) c.loop-place-test.ensures.value c.in_err-w.ensures.value) ∙ search rules }

pub returns-in_err-all : goal.returns-in_err-all
returns-in_err-all c =
    let loop = c.loop-place in
    let word = c.in_ok-w in
    record {
      value =
          loop.invariant.said None (λ f h. one_word_lem c.args.c.line.now loop.all loop.place f (omega arith) word.w word.next None loop.invariant.line c.loop-place-test.ensures.value word.ensures.value c.in_err-all.ensures.value)
          ∙ search rules;
    }

pub loop-place-preserved : goal.loop-place-preserved
loop-place-preserved c =
    let loop = c.loop-place in
    let word = c.in_ok-w in
    record {
      line = word.ensures.past.line ∙ loop.invariant.line;
      said = λ o more.
          loop.invariant.said o
          (λ f h.
          one_word_lem c.args.c.line.now loop.all loop.place f (omega arith) word.w word.next (Some c.in_ok-all.all) loop.invariant.line c.loop-place-test.ensures.value word.ensures.value c.in_ok-all.ensures.value
          ∙ more (f - 1) (omega (arith, word.ensures.past.fewer)));
    }

pub returns : goal.returns
returns c =
    let loop = c.loop-place in
    record { value = loop.invariant.said _ (λ f h. at_the_end c.args.c.line.now loop.all loop.place f (omega arith) c.loop-place-test.ensures.value) }
