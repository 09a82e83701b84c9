-- What the areas that carry a promise stand for. Assumes nothing.
--     normal_of e, limit_of e    a, b, c and d of the edge a·X + b·Y + c·Z ≤ d
--     limits_of b                the limits of a box
use Rattle.std.specs.Prelude.{ℤ}
use Rattle.motions.specs.declared.axes.Axes.{Axes}
use Rattle.motions.specs.declared.limits.Limits.{Limits}
use Rattle.geometry.specs.declared.edge.Edge.{Edge}
use Rattle.geometry.specs.declared.limit_box.LimitBox.{LimitBox}

abbrev pub normal_of : Edge → Axes ℤ
normal_of e = e.normal

abbrev pub limit_of : Edge → ℤ
limit_of e = e.limit

abbrev pub limits_of : LimitBox → Limits
limits_of b = b.limits
