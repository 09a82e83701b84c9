-- Which lines bear a target, and which of them a jump or a repeat means. Assumes nothing.
--     Said               what a line of a part program says
--     bears t l          the line l bears the target t: its label, capitals and small letters alike, or its N number
--     bearers t k ls     the numbers of the lines that bear t, where the first of ls has the number k
--     target p forward t n   the line that t means, seen from line n: the nearest later one that bears it,
--                        or else the nearest at or before n
use Rattle.std.specs.Prelude.{ℕ, ◌+◌, Bool, true, false, List, [], ◌∷◌, Some, None, Option, ◌==◌}
use Rattle.std.specs.Str.{bytes_eq}
use Rattle.sums.specs.Sums.{Sum}
use Rattle.forms.specs.Forms.{Named}
use Rattle.forms.specs.declared.said.Line.{Line}
use Rattle.forms.specs.declared.said.Target.{Target}
use Rattle.forms.specs.declared.said.Target.TheVariants.{Label, Number}
use Rattle.index.specs.Entries.{line_if}
use Rattle.index.specs.Nearest.{nearest_after, nearest_up_to}

abbrev pub Said : Type 0
Said = Line Sum Named

abbrev pub labelled : Named → Option Named → Bool
labelled n None = false
labelled n (Some l) = bytes_eq n.bytes l.bytes

abbrev pub has_number : ℕ → Option ℕ → Bool
has_number n None = false
has_number n (Some k) = n == k

abbrev pub bears : Target Named → Said → Bool
bears (Label n) l = labelled n l.label
bears (Number n) l = has_number n l.number

unfoldable pub bearers : Target Named → ℕ → List Said → List ℕ
bearers t k [] = []
bearers t k (l ∷ ls) = line_if (bears t l) k (bearers t (k + 1) ls)

abbrev pub target : List Said → Bool → Target Named → ℕ → Option ℕ
target p true t n = nearest_after n (bearers t 1 p)
target p false t n = nearest_up_to n (bearers t 1 p)
