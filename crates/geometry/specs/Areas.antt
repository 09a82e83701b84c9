-- Areas as sets of points, and what a motion has to do with one. Assumes nothing.
--     Inside C m         every point of m is in C
--     Outside C m        a point of m that is not in C
--     Answered r C m     the answer r to whether m lies in C: yes with Inside, no with Outside
--     rise n t           n.x·X + n.y·Y + n.z·Z, at t's values for X, Y and Z
--     InEdge n d         the points at which that is at most d: all that lies on one side of a plane, the plane counted
--     InBox l            the points from the lower to the upper limit of each axis, limits counted
-- A coordinate of p is z / q with q its denominator, so each limit is compared at q times its size.
use Rattle.std.specs.Prelude.{ℕ, Bool, ℤ, pos, ◌+ℤ◌, ◌*ℤ◌, ◌≤ℤ◌, Some, None, MatchBool, Option}
use Rattle.motions.specs.declared.axes.Axis.{Axis}
use Rattle.motions.specs.declared.axes.Axes.{Axes}
use Rattle.motions.specs.declared.limits.Limits.{Limits}
use Rattle.motions.specs.declared.row.Row.{Row}
use Rattle.motions.specs.Axes.{coordinate}
use Rattle.geometry.specs.Points.{Point}
use Rattle.geometry.specs.Paths.{On}

abbrev pub Inside : (Point → Type 0) → Row → Type 0
Inside C m = (p : Point) → On m p → C p

abbrev pub Outside : (Point → Type 0) → Row → Type 0
Outside C m = (p : Point) × On m p × (C p → ⊥)

abbrev pub Answered : Bool → (Point → Type 0) → Row → Type 0
Answered r C m = MatchBool r (Inside C m) (Outside C m)

abbrev pub rise : Axes ℤ → Axes ℤ → ℤ
rise n t = n.x *ℤ t.x +ℤ n.y *ℤ t.y +ℤ n.z *ℤ t.z

abbrev pub InEdge : Axes ℤ → ℤ → Point → Type 0
InEdge n d p = rise n p.numerators ≤ℤ (d *ℤ pos p.denominator)

-- an absent limit admits every coordinate on its side
abbrev pub AtLeast : Option ℤ → ℤ → ℕ → Type 0
AtLeast None z q = Unit {0}
AtLeast (Some v) z q = (v *ℤ pos q) ≤ℤ z

abbrev pub AtMost : Option ℤ → ℤ → ℕ → Type 0
AtMost None z q = Unit {0}
AtMost (Some v) z q = z ≤ℤ (v *ℤ pos q)

abbrev pub InBox : Limits → Point → Type 0
InBox l p = (a : Axis) → AtLeast (coordinate a l.lower) (coordinate a p.numerators) p.denominator × AtMost (coordinate a l.upper) (coordinate a p.numerators) p.denominator
