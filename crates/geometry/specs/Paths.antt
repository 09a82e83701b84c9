-- The points that a motion may pass: those of its path, ends counted. Assumes nothing.
--     On m p           p is a point of the row m
-- By kind of path, from s to e:
--     OnLine s e p     p is s + (e − s)·k/r, for whole r of at least 1 and k from 0 to r
--     OnRapid s e p    each coordinate of p lies between those of s and e
--     OnArc a s e p    p has the level of s and its square distance from the centre, and lies on the turn from s to e
-- A coordinate of p is z / q with q its denominator, so each condition is stated at q times its size.
use Rattle.std.specs.Prelude.{◌≡◌, ℕ, ◌<◌, ◌≤◌, ℤ, pos, ◌+ℤ◌, ◌-ℤ◌, ◌*ℤ◌, ◌≤ℤ◌}
use Rattle.std.specs.Int.{int_max, int_min}
use Rattle.algebra.specs.declared.vector.Vector.{Vector}
use Rattle.algebra.specs.Plane.{dot, cross, ◌−◌, scaled}
use Rattle.motions.specs.declared.axes.Axis.{Axis}
use Rattle.motions.specs.declared.axes.Axes.{Axes}
use Rattle.motions.specs.declared.row.Turn.{Turn}
use Rattle.motions.specs.declared.row.Turn.TheVariants.{Counterclockwise, Clockwise}
use Rattle.motions.specs.declared.row.Arc.{Arc}
use Rattle.motions.specs.declared.row.PathKind.{PathKind}
use Rattle.motions.specs.declared.row.PathKind.TheVariants.{Rapid, Line, Arc as arc}
use Rattle.motions.specs.declared.row.Row.{Row}
use Rattle.motions.specs.Axes.{coordinate, flat}
use Rattle.motions.specs.Motions.{square, level}
use Rattle.geometry.specs.Points.{Point}

pub record OnLine (s e : Axes ℤ) (p : Point) : Type 0 where
  pub part : ℕ
  pub parts : ℕ
  pub some : 0 < parts
  pub up_to : part ≤ parts
  pub at : (a : Axis) → pos parts *ℤ coordinate a p.numerators ≡ pos p.denominator *ℤ (pos parts *ℤ coordinate a s +ℤ pos part *ℤ (coordinate a e -ℤ coordinate a s))

pub record Between (a b z : ℤ) (q : ℕ) : Type 0 where
  pub low : (int_min a b *ℤ pos q) ≤ℤ z
  pub high : z ≤ℤ (int_max a b *ℤ pos q)

abbrev pub OnRapid : Axes ℤ → Axes ℤ → Point → Type 0
OnRapid s e p = (a : Axis) → Between (coordinate a s) (coordinate a e) (coordinate a p.numerators) p.denominator

-- q times p lies right of the way from s to e, or on it
abbrev pub RightOf : Vector → Vector → Vector → ℤ → Type 0
RightOf s e p q = cross (e − s) (p − scaled q s) ≤ℤ pos 0

-- counterclockwise the arc lies right of the way from s to e, clockwise right of the way from e to s; where s is e, all does
abbrev pub OnTurn : Turn → Vector → Vector → Vector → ℤ → Type 0
OnTurn Counterclockwise s e p q = RightOf s e p q
OnTurn Clockwise s e p q = RightOf e s p q

pub record OnArc (a : Arc) (s e : Axes ℤ) (p : Point) : Type 0 where
  pub flat_on : level a p.numerators ≡ pos p.denominator *ℤ level a s
  pub round : dot (flat a.plane p.numerators − scaled (pos p.denominator) a.centre) (flat a.plane p.numerators − scaled (pos p.denominator) a.centre) ≡ (pos p.denominator *ℤ pos p.denominator) *ℤ square a s
  pub turned : OnTurn a.turn (flat a.plane s) (flat a.plane e) (flat a.plane p.numerators) (pos p.denominator)

abbrev pub OnKind : PathKind → Axes ℤ → Axes ℤ → Point → Type 0
OnKind Rapid s e p = OnRapid s e p
OnKind Line s e p = OnLine s e p
OnKind (arc a) s e p = OnArc a s e p

abbrev pub On : Row → Point → Type 0
On m p = OnKind m.kind m.start m.end p
