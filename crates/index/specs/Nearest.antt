-- Which of some lines, given by their numbers, is the nearest above a line, or the nearest up to it. Assumes nothing.
--     nearest_after n ks                 the least of the lines ks that is above n, in whatever order they stand
--     nearest_up_to n ks                 the greatest of the lines ks that is at most n, in whatever order they stand
--     OneOf k ks                         k is one of the lines ks
--     NearestAfter n ks r                r holds a line of ks that is above n, and each line of ks above n is that line or a later one; or r holds none, and no line of ks is above n
--     NearestUpTo n ks r                 r holds a line of ks that is at most n, and each line of ks at most n is that line or an earlier one; or r holds none, and every line of ks is above n
use Rattle.std.specs.Prelude.{◌≡◌, ℕ, ◌<◌, ◌≤◌, min, max, ◌⊎◌, List, [], ◌∷◌, filter, Some, None, Option, nat_le, nat_lt}
use Rattle.std.specs.List.{reduce}

unfoldable pub nearest_after : ℕ → List ℕ → Option ℕ
nearest_after n ks = reduce min (filter (λ k. nat_lt n k) ks)

unfoldable pub nearest_up_to : ℕ → List ℕ → Option ℕ
nearest_up_to n ks = reduce max (filter (λ k. nat_le k n) ks)

unfoldable pub OneOf : ℕ → List ℕ → Type 0
OneOf k [] = ⊥
OneOf k (j ∷ js) = (k ≡ j) ⊎ OneOf k js

abbrev pub NearestAfter : ℕ → List ℕ → Option ℕ → Type 0
NearestAfter n ks None = (j : ℕ) → OneOf j ks → j ≤ n
NearestAfter n ks (Some k) = OneOf k ks × (n < k) × ((j : ℕ) → OneOf j ks → n < j → k ≤ j)

abbrev pub NearestUpTo : ℕ → List ℕ → Option ℕ → Type 0
NearestUpTo n ks None = (j : ℕ) → OneOf j ks → n < j
NearestUpTo n ks (Some k) = OneOf k ks × (k ≤ n) × ((j : ℕ) → OneOf j ks → j ≤ n → j ≤ k)
