-- What a line asks for: R or L and an end, A or C and a plane, an end and a centre. Assumes nothing.
--     said s             the path and the end that the line s asks for, or nothing where it is not of that form
--     Taken n old new    of the list old the first n are taken, and new is left
use Rattle.std.specs.Prelude.{◌≡◌, ℕ, ◌+◌, cond, List, [], ◌∷◌, length, drop, ℤ, pos, negsuc, Some, None, Option, ◌==◌, slice_index_or}
use Rattle.algebra.specs.declared.vector.Vector.{Vector}
use Rattle.motions.specs.declared.axes.Axes.{Axes}
use Rattle.motions.specs.declared.axes.Plane.{Plane}
use Rattle.motions.specs.Axes.{plane_of as plane_by}
use Rattle.motions.specs.declared.row.Turn.{Turn}
use Rattle.motions.specs.declared.row.Turn.TheVariants.{Counterclockwise, Clockwise}
use Rattle.motions.specs.declared.row.PathKind.{PathKind}
use Rattle.motions.specs.declared.row.PathKind.TheVariants.{Rapid, Line, Arc as arc}
use Rattle.pathcheck.specs.declared.line.Command.{Command}
use Rattle.pathcheck.specs.declared.line.Command.TheVariants.{Straight, Curve}
use Rattle.pathcheck.specs.declared.line.Asked.{Asked}
use Rattle.pathcheck.specs.Fields.{fields, number_of}

-- the letter that opens a line: R, L, A and C
abbrev pub letter_of : ℕ → Option Command
letter_of b = cond (b == 82) (Some (Straight Rapid)) (cond (b == 76) (Some (Straight Line)) (cond (b == 65) (Some (Curve Counterclockwise)) (cond (b == 67) (Some (Curve Clockwise)) None)))

abbrev pub command_of : List ℕ → Option Command
command_of [] = None
command_of (b ∷ []) = letter_of b
command_of (b ∷ c ∷ f) = None

-- the number in the field at place k; a field that is missing counts as empty, and spells none
abbrev pub number_at : List (List ℕ) → ℕ → Option ℤ
number_at fs k = number_of (slice_index_or fs k [])

-- the planes by the numbers of their G functions
abbrev pub plane_of : ℤ → Option Plane
plane_of (pos n) = plane_by n
plane_of (negsuc n) = None

abbrev pub plane_from : Option ℤ → Option Plane
plane_from None = None
plane_from (Some n) = plane_of n

abbrev pub three : Option ℤ → Option ℤ → Option ℤ → Option (Axes ℤ)
three None y z = None
three (Some x) None z = None
three (Some x) (Some y) None = None
three (Some x) (Some y) (Some z) = Some (record { x = x; y = y; z = z })

abbrev pub two : Option ℤ → Option ℤ → Option Vector
two None v = None
two (Some u) None = None
two (Some u) (Some v) = Some (record { u = u; v = v })

abbrev pub position_at : List (List ℕ) → ℕ → Option (Axes ℤ)
position_at fs k = three (number_at fs k) (number_at fs (k + 1)) (number_at fs (k + 2))

abbrev pub centre_at : List (List ℕ) → ℕ → Option Vector
centre_at fs k = two (number_at fs k) (number_at fs (k + 1))

abbrev pub straight : PathKind → Option (Axes ℤ) → Option Asked
straight k None = None
straight k (Some e) = Some (record { kind = k; end = e })

abbrev pub curve : Turn → Option Plane → Option (Axes ℤ) → Option Vector → Option Asked
curve t None e c = None
curve t (Some l) None c = None
curve t (Some l) (Some e) None = None
curve t (Some l) (Some e) (Some c) = Some (record { kind = arc (record { plane = l; turn = t; centre = c }); end = e })

abbrev pub straight_of : PathKind → List (List ℕ) → Option Asked
straight_of k fs = cond (length fs == 4) (straight k (position_at fs 1)) None

abbrev pub curve_of : Turn → List (List ℕ) → Option Asked
curve_of t fs = cond (length fs == 7) (curve t (plane_from (number_at fs 1)) (position_at fs 2) (centre_at fs 5)) None

abbrev pub asked : Option Command → List (List ℕ) → Option Asked
asked None fs = None
asked (Some (Straight k)) fs = straight_of k fs
asked (Some (Curve t)) fs = curve_of t fs

abbrev pub said : List ℕ → Option Asked
said s = asked (command_of (slice_index_or (fields s) 0 [])) (fields s)

pub record Taken (n : ℕ) (old new : List (List ℕ)) : Type 0 where
  pub counted : length old ≡ n + length new
  pub rest : new ≡ drop n old
