-- Words one after the other, beside those before them. Assumes nothing.
use Rattle.std.proofs.Common.{◌≡◌, ℕ, zero, suc, ◌-◌, ◌<◌, true, false, List, Some, None, Option, ap, arith, rules}
use Rattle.std.specs.Option.{option_map}
use Rattle.lexer.specs.Tokens.{Token, first, rest}
use Rattle.lexer.specs.Model.{ahead}
use Rattle.lexer.specs.declared.cursor.Cursor.{Cursor}
use Rattle.motions.specs.declared.axes.Axis as machine
use Rattle.motions.specs.declared.axes.Axis.TheVariants.{X, Y, Z}
use Rattle.sums.specs.Sums.{Sum, ◌>>=◌, pick}
use Rattle.forms.specs.Words.{Each, on_axis, entered, only_axes}
use Rattle.forms.specs.Forms.{is_end, one_word, beside, words_from}
use Rattle.sums.specs.Model.{value_is}
use Rattle.forms.specs.Model.{axes_is, word_is, words_is}
use Rattle.sums.specs.declared.value.Value.{Value}
use Rattle.forms.specs.declared.said.Word.{Word}
use Rattle.forms.specs.declared.said.Word.TheVariants.{Function, Axis, Centre, Feed, Speed, Tool, Action, Area}
use Rattle.forms.specs.declared.said.Words.{Words}

-- Holding values by their places changes neither what may be entered nor what is there

module _ (line : List ℕ) where
  on_axis_lem : (a : machine.Axis) (v : Value) (s : Each Value) → on_axis a (value_is line v) (axes_is line s) ≡ option_map (axes_is line) (on_axis a v s)
  on_axis_lem X v s = search rules
  on_axis_lem Y v s = search rules
  on_axis_lem Z v s = search rules

  pub entered_said : (w : Word Value) (ws : Words Value) → entered (word_is line w) (words_is line ws) ≡ option_map (words_is line) (entered w ws)
  entered_said (Function g) ws = search rules
  entered_said (Axis a v) ws = search (rules, on_axis_lem)
  entered_said (Centre a v) ws = grind (arith, on_axis_lem)
  entered_said (Feed v) ws = search rules
  entered_said (Speed v) ws = search rules
  entered_said (Tool v) ws = search rules
  entered_said (Action v) ws = search rules
  entered_said (Area on) ws = search rules

  pub only_axes_said : (ws : Words Value) → only_axes (words_is line ws) ≡ option_map (axes_is line) (only_axes ws)
  only_axes_said ws = search rules

-- One turn

words_is_lem : (f : ℕ) (ws : Words Sum) (ts : List Token) → 0 < f → words_from f ws ts ≡ pick (is_end (first ts)) (λ u. Some ws) (λ u. beside (one_word (first u) (rest u)) ws (λ vs v. words_from (f - 1) vs v)) ts
unfolding words_from
words_is_lem zero ws ts h = absurd (omega arith)
words_is_lem (suc f) ws ts h = let p : f ≡ suc f - 1 = omega arith in ap (λ g. pick (is_end (first ts)) (λ u. Some ws) (λ u. beside (one_word (first u) (rest u)) ws (λ vs v. words_from g vs v)) ts) p

module _ (line : List ℕ) (ws : Words Value) (c : Cursor) (f : ℕ) (enough : 0 < f) where
  pub at_the_end : true ≡ is_end (first (ahead c)) → words_from f (words_is line ws) (ahead c) ≡ Some (words_is line ws)
  at_the_end e = let t = words_is_lem f (words_is line ws) (ahead c) enough in search rules

  pub no_word : false ≡ is_end (first (ahead c)) → one_word (first (ahead c)) (rest (ahead c)) ≡ None → words_from f (words_is line ws) (ahead c) ≡ None
  no_word e h = let t = words_is_lem f (words_is line ws) (ahead c) enough in search rules

  pub one_word_lem : (w : Word Value) (d : Cursor) (o : Option (Words Value)) → c.line.now ≡ line → false ≡ is_end (first (ahead c)) → one_word (first (ahead c)) (rest (ahead c)) ≡ Some (word_is c.line.now w, ahead d) → o ≡ entered w ws → words_from f (words_is line ws) (ahead c) ≡ (option_map (words_is line) o >>= (λ u. words_from (f - 1) u (ahead d)))
  one_word_lem w d o inside e h g = let t = words_is_lem f (words_is line ws) (ahead c) enough in let n = entered_said line w ws in search rules
