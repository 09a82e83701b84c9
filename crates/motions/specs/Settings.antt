-- Which homes are taken, and what is answered to a setting that is not. Assumes nothing.
--     home_taken s       a home: in range
--     Taken ok Is r      r is the answer to a setting: a value that Is as asked where ok, else the refusal
use Rattle.std.specs.Prelude.{◌≡◌, Bool, true, false, ℤ, Ok, Err, Result}
use Rattle.motions.specs.declared.axes.Axes.{Axes}
use Rattle.motions.specs.declared.refusal.Refusal.{Refusal}
use Rattle.motions.specs.Ranges.{each_within, position_range}
use Rattle.motions.specs.Refusals.{refused_setting}

abbrev pub home_taken : Axes ℤ → Bool
home_taken s = each_within position_range s

abbrev pub Taken : {A : Type 0} → Bool → (A → Type 0) → Result A Refusal → Type 0
Taken ok Is (Ok a) = (ok ≡ true) × Is a
Taken ok Is (Err e) = (ok ≡ false) × (e ≡ refused_setting)
