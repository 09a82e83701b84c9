-- A line of bytes as fields, and fields as numbers. Assumes nothing.
--     is_blank b     a tab, a carriage return or a space
--     fields s       the longest runs of bytes that are no blanks, in order
--     number_of f    the number that a field spells: an optional minus and 1 to 9 digits
use Rattle.std.specs.Prelude.{ℕ, ◌+◌, ◌-◌, ◌*◌, Bool, true, false, cond, ◌&&◌, ◌||◌, List, [], ◌∷◌, length, drop, ℤ, pos, neg_ℤ, Some, None, Option, ◌==◌, nat_le, slice_index}
use Rattle.std.specs.Option.{option_map}

abbrev pub is_blank : ℕ → Bool
is_blank b = b == 9 || (b == 13 || b == 32)

-- a byte of a field before the rest of its line: it opens a field of its own where a blank or nothing follows it
abbrev pub opens : List ℕ → Bool
opens [] = true
opens (b ∷ s) = is_blank b

abbrev pub joined : ℕ → Bool → List (List ℕ) → List (List ℕ)
joined b true fs = (b ∷ []) ∷ fs
joined b false [] = (b ∷ []) ∷ []
joined b false (f ∷ fs) = (b ∷ f) ∷ fs

unfoldable pub fields : List ℕ → List (List ℕ)
fields [] = []
fields (b ∷ s) = cond (is_blank b) (fields s) (joined b (opens s) (fields s))

abbrev pub is_digit : ℕ → Bool
is_digit b = nat_le 48 b && nat_le b 57

unfoldable pub all_digits : List ℕ → Bool
all_digits [] = true
all_digits (b ∷ s) = is_digit b && all_digits s

-- the digits s written after a number v
unfoldable pub decimal : ℕ → List ℕ → ℕ
decimal v [] = v
decimal v (b ∷ s) = decimal (v * 10 + (b - 48)) s

abbrev pub digits_of : List ℕ → Option ℕ
digits_of s = cond (nat_le 1 (length s) && (nat_le (length s) 9 && all_digits s)) (Some (decimal 0 s)) None

abbrev pub number_of : List ℕ → Option ℤ
number_of s = cond (slice_index s 0 == 45) (option_map (λ n. neg_ℤ (pos n)) (digits_of (drop 1 s))) (option_map pos (digits_of s))
