-- The numbers of the sample shop, in micrometres. Assumes nothing.
--     shop_limits               X from 0 to 600000, Y from 0 to 400000, Z from −50000 to 100000
--     shop_normal, shop_edge    X + Y ≤ 900000
--     shop_home                 0, 0, 100000
use Rattle.std.specs.Prelude.{ℤ, pos, negsuc, Some}
use Rattle.motions.specs.declared.axes.Axes.{Axes}
use Rattle.motions.specs.declared.limits.Limits.{Limits}

abbrev pub shop_limits : Limits
shop_limits = record {
  lower = record { x = Some (pos 0); y = Some (pos 0); z = Some (negsuc 49999) };
  upper = record { x = Some (pos 600000); y = Some (pos 400000); z = Some (pos 100000) };
}

abbrev pub shop_normal : Axes ℤ
shop_normal = record { x = pos 1; y = pos 1; z = pos 0 }

abbrev pub shop_edge : ℤ
shop_edge = pos 900000

abbrev pub shop_home : Axes ℤ
shop_home = record { x = pos 0; y = pos 0; z = pos 100000 }
