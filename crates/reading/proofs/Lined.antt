-- The lines of a text, one after the other. Assumes nothing.
use Rattle.std.proofs.Common.{◌≡◌, ℕ, suc, ◌+◌, ◌-◌, ◌<◌, ◌≤◌, Bool, true, false, ◌&&◌, eqb, ltb, leb, List, [], ◌∷◌, length, take, drop, refl, ap, ◌∙◌, ltb-true, ltb-false, arith}
use Rattle.std.proofs.lemmas.List.{drop_all, drop-drop, length-drop, length-take-le}
use Rattle.std.proofs.lemmas.List.Sums.{prefix_len-le-length}
use Rattle.std.proofs.lemmas.Bool.{and_parts, leb-true}
use Rattle.std.specs.List.{prefix_len, list_all, enumerate_from}
use Rattle.reading.specs.Lines.{in_line, lines_of, onto, all_short, limits, Placed, placed_from, placed}

by_first : (c : ℕ) (cs : List ℕ) (b : Bool) → eqb c 10 ≡ b → ((0 < length cs) → lines_of cs ≡ take (prefix_len in_line cs) cs ∷ lines_of (drop (suc (prefix_len in_line cs)) cs)) → lines_of (c ∷ cs) ≡ take (prefix_len in_line (c ∷ cs)) (c ∷ cs) ∷ lines_of (drop (suc (prefix_len in_line (c ∷ cs))) (c ∷ cs))
unfolding lines_of
by_first c cs true e ih = simp e
by_first c [] false e ih = simp e
by_first c (d ∷ ds) false e ih =
    let one : suc (prefix_len in_line (d ∷ ds)) ≡ 1 + prefix_len in_line (d ∷ ds) = omega arith in
    simp e (ap (onto c) (ih (omega arith)) ∙ ap (λ k. take k (c ∷ d ∷ ds) ∷ lines_of (drop (suc k) (c ∷ d ∷ ds))) one)

lines_step : (s : List ℕ) → 0 < length s → lines_of s ≡ take (prefix_len in_line s) s ∷ lines_of (drop (suc (prefix_len in_line s)) s)
lines_step [] h = absurd (omega arith)
lines_step (c ∷ cs) h = by_first c cs (eqb c 10) refl (lines_step cs)

pub no_lines : (s t : List ℕ) (i : ℕ) → length s ≤ i → placed_from t i (lines_of (drop i s)) ≡ []
unfolding lines_of placed_from
no_lines s t i h = ap (λ d. placed_from t i (lines_of d)) (drop_all i s h)

-- the line that begins at i and ends at e, and the lines after it
pub one_line : (s : List ℕ) (i e : ℕ) → i < length s → e ≡ i + prefix_len in_line (drop i s) → placed_from s i (lines_of (drop i s)) ≡ record { text = s; from = i; bytes = take (e - i) (drop i s) } ∷ placed_from s (e + 1) (lines_of (drop (e + 1) s))
unfolding placed_from
one_line s i e h is =
    let len = length-drop i s in
    let le = prefix_len-le-length in_line (drop i s) in
    let n : prefix_len in_line (drop i s) ≡ e - i = omega arith in
    let same : i + suc (e - i) ≡ e + 1 = omega arith in
    let after : i + length (take (e - i) (drop i s)) + 1 ≡ e + 1 = omega (arith, length-take-le (e - i) (drop i s) (omega arith)) in
    let first : lines_of (drop i s) ≡ take (e - i) (drop i s) ∷ lines_of (drop (e + 1) s) =
    lines_step (drop i s) (omega arith)
    ∙ ap (λ k. take k (drop i s) ∷ lines_of (drop (suc k) (drop i s))) n
    ∙ ap (λ l. take (e - i) (drop i s) ∷ lines_of l) (drop-drop (suc (e - i)) i s ∙ ap (λ k. drop k s) same) in
    ap (placed_from s i) first ∙ ap (λ k. record { text = s; from = i; bytes = take (e - i) (drop i s) } ∷ placed_from s k (lines_of (drop (e + 1) s))) after

-- as many lines as there are
pub all_placed : (s : List ℕ) (i : ℕ) (ls : List (List ℕ)) → length (placed_from s i ls) ≡ length ls
unfolding placed_from
all_placed s i [] = refl
all_placed s i (l ∷ ls) = ap suc (all_placed s (i + length l + 1) ls)

-- each as short as it is
pub short_placed : (s : List ℕ) (i : ℕ) (ls : List (List ℕ)) → list_all (λ (p : Placed). leb (length p.bytes) 512) (placed_from s i ls) ≡ all_short ls
unfolding placed_from
short_placed s i [] = refl
short_placed s i (l ∷ ls) = ap (λ b. leb (length l) 512 && b) (short_placed s (i + length l + 1) ls)

-- none of them too many, counted from n on, and none too long

abbrev pub fits : ℕ × Placed → Bool
fits p = ltb p.0 2000 && leb (length p.1.bytes) 512

in_turn : (a b c : Bool) → (a && (b && c)) ≡ (b && (a && c))
in_turn true b c = refl
in_turn false true c = refl
in_turn false false c = refl

one_more : (n k : ℕ) (a c r b : Bool) → ltb n 2000 ≡ b → n ≤ 2000 → (n + 1 ≤ 2000 → r ≡ (leb (n + 1 + k) 2000 && c)) → ((b && a) && r) ≡ (leb (n + suc k) 2000 && (a && c))
one_more n k a c r true e h rest =
    let next : n + 1 + k ≡ n + suc k = omega arith in
    ap (λ x. a && x) (rest (omega (arith, ltb-true n 2000 e))) ∙ in_turn a (leb (n + 1 + k) 2000) c ∙ ap (λ m. leb m 2000 && (a && c)) next
one_more n k a c r false e h rest =
    let full = ltb-false n 2000 e in
    let over : leb (n + suc k) 2000 ≡ false = grind arith in
    rw over refl

fit_placed : (s : List ℕ) (i n : ℕ) (ls : List (List ℕ)) → n ≤ 2000 → list_all fits (enumerate_from n (placed_from s i ls)) ≡ (leb (n + length ls) 2000 && all_short ls)
unfolding placed_from
fit_placed s i n [] h = let few : leb (n + 0) 2000 ≡ true = grind arith in rw few refl
fit_placed s i n (l ∷ ls) h = one_more n (length ls) (leb (length l) 512) (all_short ls) _ (ltb n 2000) refl h (fit_placed s (i + length l + 1) (n + 1) ls)

pub all_fit : (s : List ℕ) → list_all fits (enumerate_from 0 (placed s)) ≡ (leb (length (lines_of s)) 2000 && all_short (lines_of s))
all_fit s = let from_0 : 0 + length (lines_of s) ≡ length (lines_of s) = omega arith in fit_placed s 0 0 (lines_of s) (omega arith) ∙ ap (λ n. leb n 2000 && all_short (lines_of s)) from_0

pub few_lines : (s : List ℕ) → limits s ≡ true → length (lines_of s) ≤ 2000
few_lines s h = leb-true (length (lines_of s)) 2000 (and_parts _ _ (and_parts _ _ h).1).0
