-- How far from 0 a number lies. Assumes nothing.
--     Bounded b z      z lies from −b to b
--     Short b a        so do both components of the vector a
use Rattle.std.specs.Prelude.{ℕ, ℤ, pos, neg_ℤ, ◌≤ℤ◌}
use Rattle.algebra.specs.declared.vector.Vector.{Vector}

abbrev pub Bounded : ℕ → ℤ → Type 0
Bounded b z = (neg_ℤ (pos b) ≤ℤ z) × (z ≤ℤ pos b)

abbrev pub Short : ℕ → Vector → Type 0
Short b a = Bounded b a.u × Bounded b a.v
