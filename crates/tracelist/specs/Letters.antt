-- How a listing of motions writes one. Assumes nothing.
--     letter_of k        R for a rapid, L for a line, A for a counterclockwise and C for a clockwise arc, as a character code
--     point p            the numbers of the position p in decimals, a blank between each two
--     centre_of k        the centre of an arc in decimals, a blank before each number; nothing for the other kinds
--     listed n m         the line n, the letter of the kind of its motion m, its end and the centre of an arc, a blank between each two
use Rattle.std.specs.Prelude.{ℕ, List, [], ◌∷◌, ◌++◌, ℤ, codes}
use Rattle.std.specs.Fmt.{decimal, signed_decimal}
use Rattle.motions.specs.declared.axes.Axes.{Axes}
use Rattle.motions.specs.declared.row.PathKind.{PathKind}
use Rattle.motions.specs.declared.row.PathKind.TheVariants.{Rapid, Line, Arc}
use Rattle.motions.specs.declared.row.Row.{Row}
use Rattle.motions.specs.declared.row.Turn.{Turn}
use Rattle.motions.specs.declared.row.Turn.TheVariants.{Counterclockwise, Clockwise}

abbrev pub turn_letter : Turn → ℕ
turn_letter Counterclockwise = 65
turn_letter Clockwise = 67

abbrev pub letter_of : PathKind → ℕ
letter_of Rapid = 82
letter_of Line = 76
letter_of (Arc a) = turn_letter a.turn

abbrev pub point : Axes ℤ → List ℕ
point p = signed_decimal p.x ++ codes " " ++ signed_decimal p.y ++ codes " " ++ signed_decimal p.z

abbrev pub centre_of : PathKind → List ℕ
centre_of Rapid = []
centre_of Line = []
centre_of (Arc a) = codes " " ++ signed_decimal a.centre.u ++ codes " " ++ signed_decimal a.centre.v

abbrev pub listed : ℕ → Row → List ℕ
listed n m = decimal n ++ codes " " ++ letter_of m.kind ∷ [] ++ codes " " ++ point m.end ++ centre_of m.kind
