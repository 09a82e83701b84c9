-- From one token of a line to the next. Assumes nothing.
use Rattle.std.proofs.Common.{◌≡◌, ℕ, zero, suc, ◌+◌, ◌-◌, ◌<◌, ◌≤◌, Bool, true, false, cond, List, [], ◌∷◌, map, length, get_or, take, drop, Some, None, sym, refl, ap, ◌∙◌, subst, add-zero, one-add, arith}
use Rattle.std.specs.List.{prefix_len}
use Rattle.std.proofs.lemmas.List.{drop_all, drop_more, drop-drop, get_or-drop, length-drop}
use Rattle.std.proofs.lemmas.List.Sums.{prefix_len_stops}
use Rattle.std.specs.Char.{to_ascii_lowercase}
use Rattle.lexer.specs.Bytes.{is_blank, in_name, letter_of, opens}
use Rattle.lexer.specs.Tokens.{Token, Num, name, word, letter, number, num_of, num_length, opened, followed, tokens_from, first, rest}
use Rattle.lexer.specs.Model.{tokens, ahead, left, token_is, Moves, Opened, Cut}
use Rattle.lexer.specs.declared.cursor.Cursor.{Cursor}
use Rattle.lexer.specs.declared.symbols.Letter.{Letter}
use Rattle.lexer.specs.declared.symbols.Opens.TheVariants.{Name as AName, Word as AWord, Letter as ALetter, Number as ANumber}
use Rattle.lexer.specs.declared.token.Token as code
use Rattle.lexer.specs.declared.token.Token.TheVariants.{Name as Named, Word, Letter as Lettered, Number as Numbered, Mark as Marked, Bad, End}
use Rattle.lexer.proofs.Lengths.{head_at, part_length_lem}

pub tokens_end : (s : List ℕ) (i : ℕ) → length s ≤ i → tokens s i ≡ []
unfolding tokens_from
tokens_end s i h = ap (tokens_from 0 i) (drop_all i s h)

-- what opens at a place of the line, and the token that it is
module _ (s : List ℕ) (i : ℕ) (inside : i < length s) where
  pub blank : is_blank (get_or s i 0) ≡ true → tokens s (i + 1) ≡ tokens s i
  unfolding tokens_from
  blank e =
      let c = get_or s i 0 in
      let cs = drop (i + 1) s in
      sym (ap (tokens_from 0 i) (drop_more s i 0 inside) ∙ ap (λ b. followed (cond b None (Some (opened (opens c (get_or cs 0 0)) i (c ∷ cs)))) (λ k. tokens_from k (i + 1) cs)) e)

  pub name_at_lem : (to : ℕ) (shut : Bool) → to ≡ i + prefix_len in_name (drop i s) → shut ≡ is_blank (get_or s to 32) → opened (Some AName) i (drop i s) ≡ (name (map to_ascii_lowercase (take (to - i) (drop i s))) i shut, prefix_len in_name (drop i s))
  name_at_lem to shut e f =
      let n : prefix_len in_name (drop i s) ≡ to - i = omega arith in
      λ j. (name (map to_ascii_lowercase (take (n j) (drop i s))) i ((ap is_blank (get_or-drop i s (prefix_len in_name (drop i s)) 32 ∙ ap (λ k. get_or s k 32) (sym e)) ∙ sym f) j), prefix_len in_name (drop i s))

  pub name_placed : (to : ℕ) → i ≤ to → to ≤ length s → take (to - i) (drop i s) ≡ take (length (take (to - i) (drop i s))) (drop i s)
  name_placed to low high = ap (λ k. take k (drop i s)) (sym (part_length_lem s i to low high))

  pub word_at : (l : Letter) (n : Num) → l ≡ letter_of (to_ascii_lowercase (get_or s i 0)) → n ≡ num_of (drop (i + 1) s) → opened (Some AWord) i (drop i s) ≡ (word l n, 1 + num_length (num_of (drop (i + 1) s)))
  word_at l n e f =
      (λ j. (word (letter_of (to_ascii_lowercase (head_at s i j))) (num_of (drop-drop 1 i s j)), 1 + num_length (num_of (drop-drop 1 i s j))))
      ∙ (λ j. (word (sym e j) (sym f j), 1 + num_length (num_of (drop (i + 1) s))))

  pub letter_at : (l : Letter) → l ≡ letter_of (to_ascii_lowercase (get_or s i 0)) → opened (Some ALetter) i (drop i s) ≡ (letter l, 1)
  letter_at l e = λ j. (letter ((ap (λ c. letter_of (to_ascii_lowercase c)) (head_at s i) ∙ sym e) j), 1)

  pub number_at : (n : Num) → n ≡ num_of (drop i s) → opened (Some ANumber) i (drop i s) ≡ (number n, num_length (num_of (drop i s)))
  number_at n f = λ j. (number (sym f j), num_length (num_of (drop i s)))

skip : (k i : ℕ) (s : List ℕ) → tokens_from k i s ≡ tokens_from 0 (i + k) (drop k s)
unfolding tokens_from
skip zero i [] = refl
skip zero i (c ∷ cs) = ap (λ j. tokens_from 0 j (c ∷ cs)) (sym (add-zero i))
skip (suc k) i [] = refl
skip (suc k) i (c ∷ cs) = let e : i + 1 + k ≡ i + suc k = omega arith in skip k (i + 1) cs ∙ ap (λ j. tokens_from 0 j (drop k cs)) e

blank_by : (b : Bool) (i c n : ℕ) (cs : List ℕ) → is_blank c ≡ b → tokens_from 0 (i + 1 + n) (drop n cs) ≡ tokens_from 0 (i + 1) cs → tokens_from 0 (i + cond b (1 + n) 0) (drop (cond b (1 + n) 0) (c ∷ cs)) ≡ tokens_from 0 i (c ∷ cs)
unfolding tokens_from
blank_by true i c n cs e h =
    let a : i + (1 + n) ≡ i + 1 + n = omega arith in
    (λ j. tokens_from 0 (a j) (drop (one-add n j) (c ∷ cs)))
    ∙ h
    ∙ sym (ap (λ b. followed (cond b None (Some (opened (opens c (get_or (c ∷ cs) 1 0)) i (c ∷ cs)))) (λ k. tokens_from k (i + 1) cs)) e)
blank_by false i c n cs e h = ap (λ j. tokens_from 0 j (c ∷ cs)) (add-zero i)

blanks : (i : ℕ) (s : List ℕ) → tokens_from 0 (i + prefix_len is_blank s) (drop (prefix_len is_blank s) s) ≡ tokens_from 0 i s
unfolding tokens_from
blanks i [] = refl
blanks i (c ∷ cs) = blank_by (is_blank c) i c (prefix_len is_blank cs) cs refl (blanks (i + 1) cs)

one : (i : ℕ) (s : List ℕ) (t : Token) (n : ℕ) → 0 < length s → is_blank (get_or s 0 0) ≡ false → opened (opens (get_or s 0 0) (get_or s 1 0)) i s ≡ (t, n) → 0 < n → tokens_from 0 i s ≡ t ∷ tokens_from 0 (i + n) (drop n s)
unfolding tokens_from
one i [] t n h b e k = absurd (omega arith)
one i (c ∷ cs) t zero h b e k = absurd (omega arith)
one i (c ∷ cs) t (suc n) h b e k =
    let p : suc n - 1 ≡ n = omega arith in
    let q : i + 1 + n ≡ i + suc n = omega arith in
    (λ j. followed (cond (b j) None (Some (e j))) (λ k. tokens_from k (i + 1) cs))
    ∙ ap (λ k. t ∷ tokens_from k (i + 1) cs) p
    ∙ ap (λ u. t ∷ u) (skip n (i + 1) cs ∙ ap (λ j. tokens_from 0 j (drop n cs)) q)

moves : (t : code.Token) (ts : List Token) → first ts ≡ token_is t → Moves t (length ts) (length (rest ts))
moves (Named n) [] e = cc
moves (Word l n) [] e = cc
moves (Lettered l) [] e = cc
moves (Numbered n) [] e = cc
moves (Marked m) [] e = cc
moves Bad [] e = cc
moves End [] e = omega arith
moves (Named n) (x ∷ xs) e = omega arith
moves (Word l n) (x ∷ xs) e = omega arith
moves (Lettered l) (x ∷ xs) e = omega arith
moves (Numbered n) (x ∷ xs) e = omega arith
moves (Marked m) (x ∷ xs) e = omega arith
moves Bad (x ∷ xs) e = omega arith
moves End (x ∷ xs) e = omega arith

module _ (c start : Cursor) (skips : start.at ≡ c.at + prefix_len is_blank (drop c.at c.line.now)) (same : start.line.now ≡ c.line.now) where
  onward : drop start.at start.line.now ≡ drop (prefix_len is_blank (drop c.at c.line.now)) (drop c.at c.line.now)
  onward = (λ j. drop (skips j) (same j)) ∙ sym (drop-drop (prefix_len is_blank (drop c.at c.line.now)) c.at c.line.now)

  as_here : ahead start ≡ ahead c
  as_here = (λ j. tokens_from 0 (skips j) (onward j)) ∙ blanks c.at (drop c.at c.line.now)

  no_blank : 0 < length (drop start.at start.line.now) → is_blank (get_or (drop start.at start.line.now) 0 0) ≡ false
  no_blank h =
      let s = drop c.at c.line.now in
      let n = prefix_len is_blank s in
      ap is_blank (ap (λ u. get_or u 0 0) onward ∙ get_or-drop n s 0 0 ∙ ap (λ k. get_or s k 0) (add-zero n))
      ∙ prefix_len_stops is_blank s 0 (omega (arith, ap length onward, length-drop n s))

  pub cut : (t : code.Token) (n : ℕ) → Opened start.at (drop start.at start.line.now) t n → Cut c t (record { line = start.line; at = start.at + n })
  cut t n o =
      let s = drop start.at start.line.now in
      let all : ahead c ≡ token_is t ∷ tokens start.line.now (start.at + n) = sym as_here ∙ one start.at s (token_is t) n o.stands (no_blank o.stands) o.is o.some ∙ ap (λ u. token_is t ∷ tokens_from 0 (start.at + n) u) (drop-drop n start.at start.line.now) in
      record {
        first = ap first all;
        rest = ap rest all;
        digits = o.digits;
        placed = o.placed c.line.now (ap (drop start.at) (sym same));
        moves = subst (λ u. Moves t (left c) (length u)) (ap rest all) (moves t (ahead c) (ap first all));
        line = same;
      }

  pub cut_end : length (drop start.at start.line.now) ≡ 0 → Cut c End start
  unfolding tokens_from
  cut_end h =
      let past : length start.line.now ≤ start.at = omega (arith, length-drop start.at start.line.now) in
      let here : ahead start ≡ [] = ap (tokens_from 0 start.at) (drop_all start.at start.line.now past) in
      let none : ahead c ≡ [] = sym as_here ∙ here in
      record {
        first = ap first none;
        rest = ap rest none ∙ sym here;
        digits = tt;
        placed = tt;
        moves = omega (arith, ap length as_here);
        line = same;
      }
