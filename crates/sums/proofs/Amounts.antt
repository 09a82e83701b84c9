-- Which amounts are in range. Assumes nothing.
use Rattle.std.proofs.Common.{◌≡◌, ℕ, zero, suc, ◌≤◌, Bool, true, false, pos, Some, refl, arith}
use Rattle.std.proofs.lemmas.Bool.Decides.{nat_tests}
use Rattle.std.proofs.lemmas.Int.{ints}
use Rattle.sums.specs.Sums.{ranged, plus}

pub ranged_small : (v : ℕ) → v ≤ 9999999999 → Some (pos v) ≡ ranged (pos v)
ranged_small v h = grind (arith, ints, nat_tests)

-- a number is in range where it is with its sign
pub signed_alike : (m : Bool) (v : ℕ) → plus m (Some (pos 0)) (ranged (pos v)) ≡ plus m (Some (pos 0)) (Some (pos v))
signed_alike false v = grind (arith, ints, nat_tests)
signed_alike true zero = refl
signed_alike true (suc v) = grind (arith, ints, nat_tests)
