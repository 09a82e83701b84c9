-- Runs of digits, from their front. Assumes nothing.
--     spelled v s      the digits of s written after the number v, where s has nothing else
use Rattle.std.proofs.Common.{◌≡◌, ℕ, suc, ◌+◌, ◌-◌, ◌*◌, ◌^◌, ◌<◌, ◌≤◌, Bool, cond, ◌&&◌, List, length, get_or, drop, Some, None, Option, ap, ◌∙◌, arith, lit<, drop-cons, le-leb}
use native.Mathlib.Nat.{pow-le-pow_right}
use Rattle.std.proofs.lemmas.List.{drop_all}
use Rattle.pathcheck.specs.Fields.{is_digit, all_digits, decimal, digits_of}

abbrev pub spelled : ℕ → List ℕ → Option ℕ
spelled v s = cond (all_digits s) (Some (decimal v s)) None

-- one byte more: a digit, or none
pub spelled_step : (s : List ℕ) (i v : ℕ) (t : Bool) → i < length s → is_digit (get_or s i 0) ≡ t → spelled v (drop i s) ≡ cond (t && all_digits (drop (suc i) s)) (Some (decimal (v * 10 + (get_or s i 0 - 48)) (drop (suc i) s))) None
unfolding all_digits decimal
spelled_step s i v t h d =
    ap (spelled v) (drop-cons s i 0 h) ∙ ap (λ (b : Bool). cond (b && all_digits (drop (suc i) s)) (Some (decimal (v * 10 + (get_or s i 0 - 48)) (drop (suc i) s))) None) d

-- at the end nothing is left
pub spelled_end : (s : List ℕ) (i v : ℕ) → length s ≤ i → spelled v (drop i s) ≡ Some v
unfolding all_digits decimal
spelled_end s i v h = ap (spelled v) (drop_all i s h)

-- what a run of 1 to 9 bytes spells
pub spelled_whole : (s : List ℕ) → 1 ≤ length s → length s ≤ 9 → digits_of s ≡ spelled 0 s
spelled_whole s some few = (λ i. cond (le-leb 1 (length s) some i && (le-leb (length s) 9 few i && all_digits s)) (Some (decimal 0 s)) None)

-- a number of i digits or fewer
pub ten_most : (v i n : ℕ) → v < 10 ^ i → i ≤ n → v < 10 ^ n
ten_most v i n h k = let m : 10 ^ i ≤ 10 ^ n = pow-le-pow_right (lit< tt) k in omega arith
