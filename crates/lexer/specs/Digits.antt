-- Digits. Assumes nothing.
--     within a b c       the byte c is at least a and at most b
--     is_digit c         the byte c is a digit
--     all_digits s       each byte of s is one
use Rattle.std.specs.Prelude.{ℕ, Bool, true, ◌&&◌, List, [], ◌∷◌, nat_le}

abbrev pub within : ℕ → ℕ → ℕ → Bool
within a b c = nat_le a c && nat_le c b

abbrev pub is_digit : ℕ → Bool
is_digit c = within 48 57 c

abbrev pub all_digits : List ℕ → Bool
all_digits [] = true
all_digits (c ∷ cs) = is_digit c && all_digits cs
