-- The setup from which the traces of the sample shop start. Assumes nothing.
--     shop_setup         no limits, every zero point 0, and the position at home
use Rattle.std.specs.Prelude.{None}
use Rattle.rules.specs.State.{Setup, origin}
use Rattle.shop.specs.Shop.{shop_home}

abbrev pub shop_setup : Setup
shop_setup = record {
  limits = record { lower = record { x = None; y = None; z = None }; upper = record { x = None; y = None; z = None } };
  zeros = record { g54 = origin; g55 = origin; g56 = origin; g57 = origin };
  at = shop_home;
}
