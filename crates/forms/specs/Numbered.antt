-- Lines by their numbers, which count from 1. Assumes nothing.
--     numbered ls n      the line with the number n, if there is one
use Rattle.std.specs.Prelude.{ℕ, zero, suc, List, None, Option}
use Rattle.std.specs.List.{slice_get}

abbrev pub numbered : {A : Type 0} → List A → ℕ → Option A
numbered ls zero = None
numbered ls (suc n) = slice_get ls n
