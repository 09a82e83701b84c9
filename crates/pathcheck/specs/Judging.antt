-- What is answered to a line, and where the machine stands after it. Assumes nothing.
--     row_asked at s         the row that the line s asks for from the position `at`, where the line is of the form and its row makes a motion
--     Judged C at s v p      from the position `at`, with the points C as the area, the line s is answered v and leaves the machine at p
use Rattle.std.specs.Prelude.{◌≡◌, ℕ, List, ℤ, Some, None, Option, Ok, Err, Result}
use Rattle.motions.specs.declared.axes.Axes.{Axes}
use Rattle.motions.specs.declared.refusal.Reason.{Reason}
use Rattle.motions.specs.declared.row.Row.{Row}
use Rattle.geometry.specs.Areas.{Inside, Outside}
use Rattle.motions.specs.Motions.{fault}
use Rattle.geometry.specs.Points.{Point}
use Rattle.pathcheck.specs.declared.line.Asked.{Asked}
use Rattle.pathcheck.specs.declared.judging.Verdict.{Verdict}
use Rattle.pathcheck.specs.declared.judging.Verdict.TheVariants.{Inside as inside, Outside as outside}
use Rattle.pathcheck.specs.declared.judging.Unjudged.{Unjudged}
use Rattle.pathcheck.specs.declared.judging.Unjudged.TheVariants.{Refused, Unreadable}
use Rattle.pathcheck.specs.Said.{said}

abbrev pub row_from : Axes ℤ → Asked → Row
row_from at a = record { kind = a.kind; start = at; end = a.end }

-- a row that makes no motion is refused
abbrev pub tried : Row → Option Reason → Result Row Unjudged
tried m None = Ok m
tried m (Some why) = Err (Refused why)

abbrev pub asking : Axes ℤ → Option Asked → Result Row Unjudged
asking at None = Err Unreadable
asking at (Some a) = tried (row_from at a) (fault (row_from at a))

abbrev pub row_asked : Axes ℤ → List ℕ → Result Row Unjudged
row_asked at s = asking at (said s)

-- a motion stands by its points
abbrev pub Stands : (Point → Type 0) → Row → Result Verdict Unjudged → Type 0
Stands C m (Ok inside) = Inside C m
Stands C m (Ok outside) = Outside C m
Stands C m (Err why) = ⊥

-- what is answered where a motion is asked for, and where none is: then the position stays
abbrev pub Follows : (Point → Type 0) → Axes ℤ → Result Row Unjudged → Result Verdict Unjudged → Axes ℤ → Type 0
Follows C at (Ok m) v p = Stands C m v × (p ≡ m.end)
Follows C at (Err why) v p = (v ≡ Err why) × (p ≡ at)

abbrev pub Judged : (Point → Type 0) → Axes ℤ → List ℕ → Result Verdict Unjudged → Axes ℤ → Type 0
Judged C at s v p = Follows C at (row_asked at s) v p
