-- Points of space with fractions as coordinates. Assumes nothing.
--     Point            three whole numerators over one whole denominator of at least 1
--     place s          a position as a point
use Rattle.std.specs.Prelude.{ℕ, ◌<◌, ℤ}
use Rattle.std.proofs.Common.{lit<}
use Rattle.motions.specs.declared.axes.Axes.{Axes}

-- the point (numerators.x / denominator, numerators.y / denominator, numerators.z / denominator)
pub record Point : Type 0 where
  pub numerators : Axes ℤ
  pub denominator : ℕ
  pub some : 0 < denominator

abbrev pub place : Axes ℤ → Point
place s = record { numerators = s; denominator = 1; some = lit< tt }
