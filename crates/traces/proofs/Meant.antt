-- Which lines a target can mean: lines of the program. Assumes nothing.
--     Of P o             P of what o has
--     after_of, up_to_of     the nearest number is one of the list, so it has what all of them have
--     target_is_line     a jump or a repeat goes to a line of the program
use Rattle.std.proofs.Common.{◌≡◌, ℕ, ◌+◌, ◌≤◌, Bool, true, false, ◌⊎◌, List, [], ◌∷◌, length, Some, None, Option, inr, ⊎_elim, arith}
use Rattle.forms.specs.Forms.{Named}
use Rattle.forms.specs.declared.said.Target.{Target}
use Rattle.index.specs.Entries.{line_if}
use Rattle.index.specs.Nearest.{nearest_after, nearest_up_to, OneOf, NearestAfter, NearestUpTo}
use Rattle.index.proofs.Nearness.{after_nearest, up_to_nearest}
use Rattle.rules.specs.Targets.{Said, bears, bearers, target}
use Rattle.traces.specs.Laws.{IsLine}

abbrev pub Of : {A : Type 0} → (A → Type 0) → Option A → Type 0
Of P None = Unit {0}
Of P (Some a) = P a

-- The nearest of some numbers is one of them

module _ (P : ℕ → Type 0) (n : ℕ) (ks : List ℕ) (all : (j : ℕ) → OneOf j ks → P j) where
  pub after_of : Of P (nearest_after n ks)
  after_of = go (nearest_after n ks) (after_nearest n ks)
    where
      go : (o : Option ℕ) → NearestAfter n ks o → Of P o
      go None h = tt
      go (Some k) h = all k h.0

  pub up_to_of : Of P (nearest_up_to n ks)
  up_to_of = go (nearest_up_to n ks) (up_to_nearest n ks)
    where
      go : (o : Option ℕ) → NearestUpTo n ks o → Of P o
      go None h = tt
      go (Some k) h = all k h.0

-- The lines that bear a target are lines of the program

one_front : (b : Bool) (j k : ℕ) (ks : List ℕ) → OneOf j (line_if b k ks) → (j ≡ k) ⊎ OneOf j ks
unfolding OneOf
one_front true j k ks o = o
one_front false j k ks o = inr o

bearers_are_lines : (p : List Said) (t : Target Named) (k : ℕ) (ls : List Said) → 1 ≤ k → k + length ls ≤ length p + 1 → (j : ℕ) → OneOf j (bearers t k ls) → IsLine p j
unfolding bearers OneOf
bearers_are_lines p t k [] h g j o = absurd o
bearers_are_lines p t k (l ∷ ls) h g j o = ⊎_elim (λ e. (omega arith, omega arith)) (bearers_are_lines p t (k + 1) ls (omega arith) (omega arith) j) (one_front (bears t l) j k _ o)

pub target_is_line : (p : List Said) (forward : Bool) (t : Target Named) (n : ℕ) → Of (IsLine p) (target p forward t n)
target_is_line p true t n = after_of (IsLine p) n (bearers t 1 p) (bearers_are_lines p t 1 p (omega arith) (omega arith))
target_is_line p false t n = up_to_of (IsLine p) n (bearers t 1 p) (bearers_are_lines p t 1 p (omega arith) (omega arith))
