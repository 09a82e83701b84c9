-- What the values that carry a promise stand for. Assumes nothing.
--     row_of m          the numbers of the motion m
--     Remade m r        r is what the check of the row m answers: the motion with its numbers, or its fault
--     home_of h         the position of a home
use Rattle.std.specs.Prelude.{◌≡◌, ℤ, Some, None, Ok, Err, Result}
use Rattle.motions.specs.declared.axes.Axes.{Axes}
use Rattle.motions.specs.declared.home.Home.{Home}
use Rattle.motions.specs.declared.motion.Motion.{Motion}
use Rattle.motions.specs.declared.refusal.Reason.{Reason}
use Rattle.motions.specs.declared.row.Row.{Row}
use Rattle.motions.specs.Motions.{fault}

abbrev pub row_of : Motion → Row
row_of m = m.row

abbrev pub Remade : Row → Result Motion Reason → Type 0
Remade m (Ok made) = (fault m ≡ None) × (row_of made ≡ m)
Remade m (Err reason) = fault m ≡ Some reason

abbrev pub home_of : Home → Axes ℤ
home_of h = h.position
