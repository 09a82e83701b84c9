-- How large the numbers are that decide about an arc, so that none of the sums is too large to compute. Assumes nothing.
--     Posed s e n d    an arc and a half plane as they are handed over: seen from a centre in range
use Rattle.std.specs.Prelude.{ℤ}
use Rattle.algebra.specs.declared.vector.Vector.{Vector}
use Rattle.algebra.specs.Sizes.{Bounded, Short}

pub record Posed (s e n : Vector) (d : ℤ) : Type 0 where
  pub start : Short 6000000 s
  pub end : Short 6000000 e
  pub normal : Short 100 n
  pub limit : Bounded 2000000000 d
