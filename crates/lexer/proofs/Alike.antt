-- Neither the case of its letters nor its comment changes the tokens of a line. Assumes nothing.
use Rattle.std.proofs.Common.{◌≡◌, ℕ, zero, suc, ◌+◌, ◌<◌, ◌≤◌, Bool, true, false, cond, not, ◌&&◌, ◌||◌, eqb, List, [], ◌∷◌, ◌++◌, map, length, get_or, take, drop, Some, None, Option, refl, ap, one-add, ◌∙◌, arith, lit<}
use lib.Seq.{take-append-le}
use Rattle.std.specs.List.{prefix_len}
use Rattle.std.specs.Option.{option_map}
use Rattle.std.proofs.lemmas.List.Sums.{prefix_len-le-length}
use Rattle.std.proofs.Math.ListN.{get_or-map}
use Rattle.std.proofs.lemmas.List.{take-map, drop-map, take-take, length-take-le}
use Rattle.std.proofs.lemmas.Simd.{map-map}
use Rattle.std.proofs.lemmas.Str.Ascii.{lowercase-lowercase}
use Rattle.std.proofs.lemmas.Bool.{and_parts}
use Rattle.std.proofs.lemmas.Bool.Decides.{nat_tests}
use Rattle.std.specs.Char.{to_ascii_lowercase}
use Rattle.lexer.specs.Digits.{is_digit, all_digits}
use Rattle.lexer.specs.Bytes.{is_blank, is_letter, starts_name, in_name, letter_of, mark_of, opens, in_code, code}
use Rattle.lexer.specs.Tokens.{name, word, letter, number, pointed, part_of, num_of, num_length, name_of, opened, token_at, followed, tokens_from, tokens_of}
use Rattle.lexer.specs.declared.symbols.Mark.TheVariants.{Plus, Minus, Equals, Opening, Closing, Colon, Same, Differs, Less, Greater, AtMost, AtLeast}
use Rattle.lexer.specs.declared.symbols.Opens.{Opens}
use Rattle.lexer.specs.declared.symbols.Opens.TheVariants.{Name as AName, Word as AWord, Letter as ALetter, Number as ANumber, Mark as AMark}
use Rattle.lexer.proofs.Lengths.{run_digits}

-- Comments

again_by : (b : Bool) (c : ℕ) (cs t : List ℕ) → in_code c ≡ b → prefix_len in_code (take (prefix_len in_code cs) cs ++ 59 ∷ t) ≡ prefix_len in_code cs → prefix_len in_code (take (cond b (1 + prefix_len in_code cs) 0) (c ∷ cs) ++ 59 ∷ t) ≡ cond b (1 + prefix_len in_code cs) 0
again_by true c cs t e h = rw (one-add, e, h) (one-add _)
again_by false c cs t e h = refl

run_again : (s t : List ℕ) → prefix_len in_code (take (prefix_len in_code s) s ++ 59 ∷ t) ≡ prefix_len in_code s
run_again [] t = refl
run_again (c ∷ cs) t = again_by (in_code c) c cs t refl (run_again cs t)

pub code_again : (s t : List ℕ) → code (code s ++ 59 ∷ t) ≡ code s
code_again s t =
    let n = prefix_len in_code s in
    let le : n ≤ length (take n s) = omega (arith, length-take-le n s (prefix_len-le-length in_code s)) in
    ap (λ k. take k (take n s ++ 59 ∷ t)) (run_again s t) ∙ take-append-le n (take n s) (59 ∷ t) le ∙ take-take n n s (omega arith)

-- Cases of letters

pub eqb_lower : (k c : ℕ) → k < 65 → eqb (to_ascii_lowercase c) k ≡ eqb c k
eqb_lower k c h = grind (arith, nat_tests)

digit_lower : (c : ℕ) → is_digit (to_ascii_lowercase c) ≡ is_digit c
digit_lower c = grind (arith, nat_tests)

letter_lower : (c : ℕ) → is_letter (to_ascii_lowercase c) ≡ is_letter c
letter_lower c = grind (arith, nat_tests)

underscore_lower : (c : ℕ) → eqb (to_ascii_lowercase c) 95 ≡ eqb c 95
underscore_lower c = grind (arith, nat_tests)

digit_fixed : (c : ℕ) → is_digit c ≡ true → to_ascii_lowercase c ≡ c
digit_fixed c e = grind (arith, nat_tests)

blank_lower : (c : ℕ) → is_blank (to_ascii_lowercase c) ≡ is_blank c
blank_lower c = λ j. eqb_lower 9 c (lit< tt) j || (eqb_lower 13 c (lit< tt) j || eqb_lower 32 c (lit< tt) j)

starts_lower : (c : ℕ) → starts_name (to_ascii_lowercase c) ≡ starts_name c
starts_lower c = λ j. letter_lower c j || underscore_lower c j

name_byte_lower : (c : ℕ) → in_name (to_ascii_lowercase c) ≡ in_name c
name_byte_lower c = λ j. starts_lower c j || digit_lower c j

code_byte_lower : (c : ℕ) → in_code (to_ascii_lowercase c) ≡ in_code c
code_byte_lower c = ap not (eqb_lower 59 c (lit< tt))

mark_lower : (c d : ℕ) → mark_of (to_ascii_lowercase c) (to_ascii_lowercase d) ≡ mark_of c d
mark_lower c d =
    let e : (k : ℕ) → k < 65 → (b : ℕ) → eqb (to_ascii_lowercase b) k ≡ eqb b k = (λ k h b. eqb_lower k b h) in
    λ j.
    cond (e 61 (lit< tt) c j && e 61 (lit< tt) d j) (Some Same)
    (cond (e 60 (lit< tt) c j && e 62 (lit< tt) d j) (Some Differs)
    (cond (e 60 (lit< tt) c j && e 61 (lit< tt) d j) (Some AtMost)
    (cond (e 62 (lit< tt) c j && e 61 (lit< tt) d j) (Some AtLeast)
    (cond (e 43 (lit< tt) c j) (Some Plus)
    (cond (e 45 (lit< tt) c j) (Some Minus)
    (cond (e 61 (lit< tt) c j) (Some Equals)
    (cond (e 40 (lit< tt) c j) (Some Opening)
    (cond (e 41 (lit< tt) c j) (Some Closing)
    (cond (e 58 (lit< tt) c j) (Some Colon)
    (cond (e 60 (lit< tt) c j) (Some Less)
    (cond (e 62 (lit< tt) c j) (Some Greater) None)))))))))))

opens_lower : (c d : ℕ) → opens (to_ascii_lowercase c) (to_ascii_lowercase d) ≡ opens c d
opens_lower c d = λ j.
    cond (starts_lower c j && starts_lower d j) (Some AName)
    (cond (letter_lower c j && digit_lower d j) (Some AWord)
    (cond (letter_lower c j) (Some ALetter)
    (cond (digit_lower c j) (Some ANumber) (option_map AMark (mark_lower c d j)))))

pub prefix_lower : (p : ℕ → Bool) → ((c : ℕ) → p (to_ascii_lowercase c) ≡ p c) → (s : List ℕ) → prefix_len p (map to_ascii_lowercase s) ≡ prefix_len p s
prefix_lower p h [] = refl
prefix_lower p h (c ∷ cs) = λ j. cond (h c j) (1 + prefix_lower p h cs j) 0

fixed : (s : List ℕ) → all_digits s ≡ true → map to_ascii_lowercase s ≡ s
fixed [] h = refl
fixed (c ∷ cs) h = λ j. digit_fixed c (and_parts _ _ h).0 j ∷ fixed cs (and_parts _ _ h).1 j

digits_lower : (s : List ℕ) → take (prefix_len is_digit (map to_ascii_lowercase s)) (map to_ascii_lowercase s) ≡ take (prefix_len is_digit s) s
digits_lower s = ap (λ n. take n (map to_ascii_lowercase s)) (prefix_lower is_digit digit_lower s) ∙ take-map to_ascii_lowercase (prefix_len is_digit s) s ∙ fixed (take (prefix_len is_digit s) s) (run_digits s)

pointed_lower : (s : List ℕ) → pointed (map to_ascii_lowercase s) ≡ pointed s
pointed_lower s = λ j. (ap (λ c. eqb c 46) (get_or-map to_ascii_lowercase s 0 0) ∙ eqb_lower 46 (get_or s 0 0) (lit< tt)) j && (ap is_digit (get_or-map to_ascii_lowercase s 1 0) ∙ digit_lower (get_or s 1 0)) j

part_lower : (b : Bool) (s : List ℕ) → part_of b (map to_ascii_lowercase s) ≡ part_of b s
part_lower true s = ap (λ u. Some (take (prefix_len is_digit u) u)) (drop-map to_ascii_lowercase 1 s) ∙ ap (λ u. Some u) (digits_lower (drop 1 s))
part_lower false s = refl

num_lower : (s : List ℕ) → num_of (map to_ascii_lowercase s) ≡ num_of s
num_lower s =
    let n = prefix_len is_digit s in
    let d : drop (prefix_len is_digit (map to_ascii_lowercase s)) (map to_ascii_lowercase s) ≡ map to_ascii_lowercase (drop n s) = ap (λ k. drop k (map to_ascii_lowercase s)) (prefix_lower is_digit digit_lower s) ∙ drop-map to_ascii_lowercase n s in
    let p = ap (λ u. part_of (pointed u) u) d ∙ ap (λ b. part_of b (map to_ascii_lowercase (drop n s))) (pointed_lower (drop n s)) ∙ part_lower (pointed (drop n s)) (drop n s) in
    λ j. record { whole = digits_lower s j; part = p j }

name_lower : (i : ℕ) (s : List ℕ) → name_of i (map to_ascii_lowercase s) ≡ name_of i s
name_lower i s =
    let r = prefix_lower in_name name_byte_lower s in
    let n = prefix_len in_name s in
    let b = ap (map to_ascii_lowercase) (ap (λ k. take k (map to_ascii_lowercase s)) r ∙ take-map to_ascii_lowercase n s) ∙ map-map to_ascii_lowercase to_ascii_lowercase (take n s) ∙ (λ j. map (λ c. lowercase-lowercase c j) (take n s)) in
    let e = ap (λ k. is_blank (get_or (map to_ascii_lowercase s) k 32)) r ∙ ap is_blank (get_or-map to_ascii_lowercase s n 32) ∙ blank_lower (get_or s n 32) in
    λ j. name (b j) i (e j)

first_letter : (s : List ℕ) → letter_of (to_ascii_lowercase (get_or (map to_ascii_lowercase s) 0 0)) ≡ letter_of (to_ascii_lowercase (get_or s 0 0))
first_letter s = ap (λ c. letter_of (to_ascii_lowercase c)) (get_or-map to_ascii_lowercase s 0 0) ∙ ap letter_of (lowercase-lowercase (get_or s 0 0))

opened_lower : (o : Option Opens) (i : ℕ) (s : List ℕ) → opened o i (map to_ascii_lowercase s) ≡ opened o i s
opened_lower (Some AName) i s = λ j. (name_lower i s j, prefix_lower in_name name_byte_lower s j)
opened_lower (Some AWord) i s = let q = ap num_of (drop-map to_ascii_lowercase 1 s) ∙ num_lower (drop 1 s) in λ j. (word (first_letter s j) (q j), 1 + num_length (q j))
opened_lower (Some ALetter) i s = λ j. (letter (first_letter s j), 1)
opened_lower (Some ANumber) i s = λ j. (number (num_lower s j), num_length (num_lower s j))
opened_lower (Some (AMark m)) i s = refl
opened_lower None i s = refl

token_lower : (i : ℕ) (s : List ℕ) → token_at i (map to_ascii_lowercase s) ≡ token_at i s
token_lower i s =
    let a = get_or-map to_ascii_lowercase s 0 0 in
    let b = get_or-map to_ascii_lowercase s 1 0 in
    (λ j. cond (is_blank (a j)) None (Some (opened (opens (a j) (b j)) i (map to_ascii_lowercase s))))
    ∙ (λ j. cond (blank_lower (get_or s 0 0) j) None (Some (opened (opens_lower (get_or s 0 0) (get_or s 1 0) j) i (map to_ascii_lowercase s))))
    ∙ ap (λ o. cond (is_blank (get_or s 0 0)) None (Some o)) (opened_lower (opens (get_or s 0 0) (get_or s 1 0)) i s)

tokens_lower : (k i : ℕ) (s : List ℕ) → tokens_from k i (map to_ascii_lowercase s) ≡ tokens_from k i s
unfolding tokens_from
tokens_lower k i [] = refl
tokens_lower zero i (c ∷ cs) = λ j. followed (token_lower i (c ∷ cs) j) (λ k. tokens_lower k (i + 1) cs j)
tokens_lower (suc k) i (c ∷ cs) = tokens_lower k (i + 1) cs

code_lower : (s : List ℕ) → code (map to_ascii_lowercase s) ≡ map to_ascii_lowercase (code s)
code_lower s = ap (λ n. take n (map to_ascii_lowercase s)) (prefix_lower in_code code_byte_lower s) ∙ take-map to_ascii_lowercase (prefix_len in_code s) s

pub tokens_alike : (i : ℕ) (s : List ℕ) → tokens_of i (map to_ascii_lowercase s) ≡ tokens_of i s
tokens_alike i s = ap (tokens_from 0 i) (code_lower s) ∙ tokens_lower 0 i (code s)
