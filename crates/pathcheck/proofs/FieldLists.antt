-- The fields of a line, from its front. Assumes nothing.
use Rattle.std.proofs.Common.{◌≡◌, ℕ, suc, ◌+◌, ◌≤◌, Bool, true, false, cond, not, List, [], ◌∷◌, length, get_or, position, unwrap_or, Some, None, Option, take, drop, sym, refl, ap, ◌∙◌, ⊎_elim, arith, drop-cons}
use Rattle.std.specs.List.{position_or_len}
use Rattle.std.proofs.lemmas.Bool.{cases_Bool, not-true}
use Rattle.std.proofs.lemmas.Bool.Decides.{nat_tests}
use Rattle.std.proofs.lemmas.List.{drop_all}
use Rattle.std.proofs.lemmas.List.Sums.{prefix_len-le-length, position_or_len_is}
use Rattle.std.proofs.lemmas.List.Quantifiers.{position-Some}
use Rattle.pathcheck.specs.Fields.{is_blank, opens, joined, fields}

abbrev in_field : ℕ → Bool
in_field b = not (is_blank b)

-- blanks in front change nothing
skipped : (s : List ℕ) → fields (drop (position_or_len in_field s) s) ≡ fields s
unfolding fields
skipped [] = refl
skipped (b ∷ s) =
    let n = position_or_len in_field s in
    let next : 1 + n ≡ suc n = omega arith in
    ⊎_elim
    (λ (h : is_blank b ≡ true).
    (λ i. fields (drop (cond (not (not (h i))) (next i) 0) (b ∷ s)))
    ∙ skipped s ∙ sym (ap (λ t. cond t (fields s) (joined b (opens s) (fields s))) h))
    (λ (h : is_blank b ≡ false). ap (λ t. fields (drop (cond (not (not t)) (1 + n) 0) (b ∷ s))) h)
    (cases_Bool (is_blank b))

-- a byte that is no blank opens a field that goes on to the next blank
opened : (b : ℕ) (s : List ℕ) → is_blank b ≡ false → fields (b ∷ s) ≡ (b ∷ take (position_or_len is_blank s) s) ∷ fields (drop (position_or_len is_blank s) s)
unfolding fields
opened b [] nb = ap (λ t. cond t [] ((b ∷ []) ∷ [])) nb
opened b (c ∷ s) nb =
    let n = position_or_len is_blank s in
    let next : 1 + n ≡ suc n = omega arith in
    let cut = λ (k : ℕ). (b ∷ take k (c ∷ s)) ∷ fields (drop k (c ∷ s)) in
    ⊎_elim
    (λ (h : is_blank c ≡ true).
    (λ i. cond (nb i) (fields (c ∷ s)) (joined b (h i) (fields (c ∷ s))))
    ∙ sym (ap (λ t. cut (cond (not t) (1 + n) 0)) h))
    (λ (h : is_blank c ≡ false).
    (λ i. cond (nb i) (fields (c ∷ s)) (joined b (h i) (fields (c ∷ s))))
    ∙ ap (joined b false) (opened c s h) ∙ sym (λ i. cut (cond (not (h i)) (next i) 0)))
    (cases_Bool (is_blank c))

-- a line of blanks has no field
pub no_field : (s : List ℕ) → None ≡ position (λ b. not (is_blank b)) s → fields s ≡ []
unfolding fields
no_field s h =
    let all : length s ≡ position_or_len in_field s = grind (arith, nat_tests, prefix_len-le-length (λ b. not (in_field b)) s) in
    sym (skipped s) ∙ ap (λ k. fields (drop k s)) (sym all) ∙ ap fields (drop_all (length s) s (omega arith))

-- the first field, and what follows it
pub first_field : (s : List ℕ) (i : ℕ) → Some i ≡ position (λ b. not (is_blank b)) s → fields s ≡ take (position_or_len is_blank (drop i s)) (drop i s) ∷ fields (drop (position_or_len is_blank (drop i s)) (drop i s))
first_field s i h =
    let found = position-Some in_field s i 0 (sym h) in
    let e : position_or_len in_field s ≡ i = position_or_len_is in_field s i 0 (omega arith) found.2 (λ l. found.1) in
    let b = get_or s i 0 in
    let more = drop (suc i) s in
    let n = position_or_len is_blank more in
    let next : 1 + n ≡ suc n = omega arith in
    let there : drop i s ≡ b ∷ more = drop-cons s i 0 found.0 in
    let nb : is_blank b ≡ false = not-true (is_blank b) found.1 in
    sym (skipped s) ∙ ap (λ k. fields (drop k s)) e ∙ ap fields there ∙ opened b more nb
    ∙ sym (λ j. take (cond (not (nb j)) (next j) 0) (b ∷ more) ∷ fields (drop (cond (not (nb j)) (next j) 0) (b ∷ more)))
    ∙ sym (ap (λ (t : List ℕ). take (position_or_len is_blank t) t ∷ fields (drop (position_or_len is_blank t) t)) there)

-- a field that ends at the first blank, or else with the line
pub field_ends : (s : List ℕ) (found : Option ℕ) (end : ℕ) → end ≡ unwrap_or found (length s) → found ≡ position is_blank s → (end ≡ position_or_len is_blank s) × (end ≤ length s)
field_ends s found end e h =
    let most : position_or_len is_blank s ≤ length s = prefix_len-le-length (λ b. not (is_blank b)) s in
    let whole : unwrap_or (position is_blank s) (length s) ≡ position_or_len is_blank s = grind (arith, nat_tests, most) in
    let is = e ∙ ap (λ o. unwrap_or o (length s)) h ∙ whole in
    (is, omega (arith, is))
