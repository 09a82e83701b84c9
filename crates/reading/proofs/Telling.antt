-- What the lines of a text say, one after the other. Assumes nothing.
use Rattle.std.proofs.Common.{◌≡◌, ℕ, ◌+◌, ◌-◌, ◌≤◌, List, [], ◌∷◌, ◌++◌, length, take, drop, cond, ltb, Some, None, Option, sym, refl, ap, ◌∙◌, arith}
use Rattle.std.proofs.lemmas.List.{drop-take, length-drop, length-take-le, take-take}
use Rattle.std.proofs.lemmas.List.Sums.{prefix_len-le-length}
use Rattle.std.proofs.lemmas.Iterator.Adapters.{position_from-zero}
use Rattle.std.specs.List.{cons_option, filter_map, position_from, position_or_len, prefix_len}
use Rattle.std.specs.Option.{option_map}
use Rattle.lexer.specs.Bytes.{in_code}
use Rattle.lexer.specs.Tokens.{tokens_from}
use Rattle.lexer.specs.Model.{tokens}
use Rattle.forms.specs.declared.said.Line.{Line}
use Rattle.sums.specs.Sums.{Sum}
use Rattle.forms.specs.Forms.{Named, form_of, line_at}
use Rattle.reading.specs.Lines.{lines_of, Placed, placed_from, placed}
use Rattle.reading.specs.Reading.{Text, lines, too_large, bad_line, above, or_bad, formless, read_lines, bad}

bad_above : (l : Line Sum Named) (t : Text) → bad (above l t) ≡ bad t
bad_above l (lines ms) = refl
bad_above l too_large = refl
bad_above l (bad_line n) = refl

-- The first bad line is the first of no form

first_by : (o : Option (Line Sum Named)) (p : Placed) (ps : List Placed) (t : Text) (k : ℕ) → line_at p.from p.bytes ≡ o → bad t ≡ option_map (λ b. b + 1) (position_from formless (k + 1) ps) → bad (or_bad o (k + 1) (λ u. t)) ≡ option_map (λ b. b + 1) (position_from formless k (p ∷ ps))
first_by None p ps t k e ih = simp e
first_by (Some l) p ps t k e ih = simp e (bad_above l t ∙ ih)

first_formless : (s : List ℕ) (k i : ℕ) (ls : List (List ℕ)) → bad (read_lines (k + 1) i ls) ≡ option_map (λ b. b + 1) (position_from formless k (placed_from s i ls))
unfolding placed_from read_lines
first_formless s k i [] = refl
first_formless s k i (l ∷ ls) = first_by (line_at i l) (record { text = s; from = i; bytes = l }) (placed_from s (i + length l + 1) ls) (read_lines (k + 1 + 1) (i + length l + 1) ls) k refl (first_formless s (k + 1) (i + length l + 1) ls)

pub first_is : (s : List ℕ) (r : Option ℕ) → r ≡ cond (ltb (position_or_len formless (placed s)) (length (placed s))) (Some (position_or_len formless (placed s))) None → option_map (λ b. b + 1) r ≡ bad (read_lines 1 0 (lines_of s))
first_is s r found = ap (option_map (λ b. b + 1)) (found ∙ position_from-zero formless (placed s)) ∙ sym (first_formless s 0 0 (lines_of s))

-- Where no line is bad, what the text says is what those of a form say

abbrev pub says : Placed → Option (Line Sum Named)
says p = line_at p.from p.bytes

abbrev pub said_by : List Placed → List (Line Sum Named)
said_by ps = filter_map says ps

good_by : (o : Option (Line Sum Named)) (t : Text) (ms : List (Line Sum Named)) (n : ℕ) → (bad t ≡ None → t ≡ lines ms) → bad (or_bad o n (λ u. t)) ≡ None → or_bad o n (λ u. t) ≡ lines (cons_option o ms)
good_by None t ms n ih g = absurd (cc)
good_by (Some l) t ms n ih g = ap (above l) (ih (sym (bad_above l t) ∙ g))

pub all_said : (s : List ℕ) (n i : ℕ) (ls : List (List ℕ)) → bad (read_lines n i ls) ≡ None → read_lines n i ls ≡ lines (said_by (placed_from s i ls))
unfolding placed_from read_lines
all_said s n i [] g = refl
all_said s n i (l ∷ ls) g = good_by (line_at i l) (read_lines (n + 1) (i + length l + 1) ls) (said_by (placed_from s (i + length l + 1) ls)) n (all_said s (n + 1) (i + length l + 1) ls) g

pub said_on : (was : List (Line Sum Named)) (p : Placed) (ps left : List Placed) (all : List (Line Sum Named)) → left ≡ p ∷ ps → was ++ said_by left ≡ all → (o : Option (Line Sum Named)) → says p ≡ o → was ++ cons_option o (said_by ps) ≡ all
said_on was p ps left all e h o f = ap (λ o. was ++ cons_option o (said_by ps)) (sym f) ∙ ap (λ qs. was ++ said_by qs) (sym e) ∙ h

-- each line stands in the text s
abbrev pub InText : List ℕ → List Placed → Type 0
InText s [] = Unit {0}
InText s (p ∷ ps) = (p.text ≡ s) × InText s ps

pub all_in_text : (s : List ℕ) (i : ℕ) (ls : List (List ℕ)) → InText s (placed_from s i ls)
unfolding placed_from
all_in_text s i [] = tt
all_in_text s i (l ∷ ls) = (refl, all_in_text s (i + length l + 1) ls)

-- The code of a line, as a part of the text

cut_from : (s : List ℕ) (i e : ℕ) → i ≤ e → drop i (take e s) ≡ take (e - i) (drop i s)
cut_from s i e h = let k : e ≡ i + (e - i) = omega arith in ap (λ n. drop i (take n s)) k ∙ drop-take i (e - i) s

module _ (s : List ℕ) (i e k : ℕ) (low : i ≤ e) (high : e ≤ length s) (is : k ≡ i + prefix_len in_code (drop i (take e s))) where
  run_is : prefix_len in_code (drop i (take e s)) ≡ prefix_len in_code (take (e - i) (drop i s))
  run_is = ap (prefix_len in_code) (cut_from s i e low)

  run_few : prefix_len in_code (take (e - i) (drop i s)) ≤ e - i
  run_few = omega (arith, prefix_len-le-length in_code (take (e - i) (drop i s)), length-take-le (e - i) (drop i s) (omega (arith, length-drop i s, low, high)))

  pub code_high : k ≤ length s
  code_high = omega (arith, is, run_is, run_few, low, high)

  pub form_is : form_of (tokens (take k s) i) ≡ line_at i (take (e - i) (drop i s))
  form_is =
      let n : k - i ≡ prefix_len in_code (take (e - i) (drop i s)) = omega (arith, is, run_is) in
      ap (λ u. form_of (tokens_from 0 i u)) (cut_from s i k (omega (arith, is)) ∙ ap (λ n. take n (drop i s)) n ∙ sym (take-take (prefix_len in_code (take (e - i) (drop i s))) (e - i) (drop i s) run_few))
