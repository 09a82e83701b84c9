-- Values by axis, and the planes. Assumes nothing.
--     coordinate a t           what t has for the axis a
--     alike v                  v for each axis
--     set_on a v t             t with v for the axis a
--     none_named t             no axis has anything in t
--     u_axis, v_axis, w_axis   of a plane: a counterclockwise turn goes from u towards v, and w is the third
--     flat l t                 t seen in the plane l, as a vector
--     plane_of g               the plane that a G function chooses, if it chooses one
--     Chosen g r               r is that plane, or an error with a G function that chooses none
use Rattle.std.specs.Prelude.{◌≡◌, ℕ, Bool, cond, ◌&&◌, ◌==◌, ℤ, Option, Some, None, is_none, Result, MatchResult}
use Rattle.algebra.specs.declared.vector.Vector.{Vector}
use Rattle.motions.specs.declared.axes.Axis.{Axis}
use Rattle.motions.specs.declared.axes.Axis.TheVariants.{X, Y, Z}
use Rattle.motions.specs.declared.axes.Axes.{Axes}
use Rattle.motions.specs.declared.axes.NoPlane.{NoPlane}
use Rattle.motions.specs.declared.axes.Plane.{Plane}
use Rattle.motions.specs.declared.axes.Plane.TheVariants.{XY, ZX, YZ}

abbrev pub coordinate : {A : Type 0} → Axis → Axes A → A
coordinate X t = t.x
coordinate Y t = t.y
coordinate Z t = t.z

abbrev pub alike : {A : Type 0} → A → Axes A
alike v = record { x = v; y = v; z = v }

abbrev pub set_on : {A : Type 0} → Axis → A → Axes A → Axes A
set_on X v t = record { x = v; y = t.y; z = t.z }
set_on Y v t = record { x = t.x; y = v; z = t.z }
set_on Z v t = record { x = t.x; y = t.y; z = v }

abbrev pub none_named : {A : Type 0} → Axes (Option A) → Bool
none_named t = is_none t.x && (is_none t.y && is_none t.z)

abbrev pub u_axis : Plane → Axis
u_axis XY = X
u_axis ZX = Z
u_axis YZ = Y

abbrev pub v_axis : Plane → Axis
v_axis XY = Y
v_axis ZX = X
v_axis YZ = Z

abbrev pub w_axis : Plane → Axis
w_axis XY = Z
w_axis ZX = Y
w_axis YZ = X

abbrev pub flat : Plane → Axes ℤ → Vector
flat l t = record { u = coordinate (u_axis l) t; v = coordinate (v_axis l) t }

abbrev pub plane_of : ℕ → Option Plane
plane_of g = cond (g == 17) (Some XY) (cond (g == 18) (Some ZX) (cond (g == 19) (Some YZ) None))

abbrev pub Chosen : ℕ → Result Plane NoPlane → Type 0
Chosen g r = MatchResult r (λ p. plane_of g ≡ Some p) (λ e. (plane_of g ≡ None) × (e.0 ≡ g))
