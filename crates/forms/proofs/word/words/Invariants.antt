use Rattle.std.proofs.Common.{◌≡◌, ℕ, ◌<◌, Option}
use Rattle.lexer.specs.Model.{ahead, left}
use Rattle.sums.specs.Sums.{Sum}
use Rattle.forms.specs.Forms.{words_from, all_words}
use Rattle.forms.specs.Model.{words_is}
use Rattle.forms.specs.declared.said.Words.{Words}
use Rattle.forms.proofs.word.words.Given as goal

-- the place is in the line; whatever the rest of it says beside the words so far, the whole line says
abbrev pub invariant-loop-place : goal.invariant-loop-place
invariant-loop-place l = record {
  line : l.place.line.now ≡ l.c.line.now;
  said : (o : Option (Words Sum)) → ((f : ℕ) → left l.place < f → words_from f (words_is l.c.line.now l.all) (ahead l.place) ≡ o) → all_words (ahead l.c) ≡ o;
}

abbrev pub decreases-loop-place : goal.decreases-loop-place
decreases-loop-place l = left l.place
