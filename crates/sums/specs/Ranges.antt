-- Which values of sums and of the R parameters are in their range. Assumes nothing.
--     in_range z         z, in thousandths, is at most 9,999,999.999 either way
use Rattle.std.specs.Prelude.{Bool, ◌&&◌, ℤ, pos, negsuc, int_le}

abbrev pub in_range : ℤ → Bool
in_range z = int_le (negsuc 9999999998) z && int_le z (pos 9999999999)
