-- The lines of a text, and the limits of a text. Assumes nothing.
--     in_line c          the byte c ends no line
--     lines_of s         the lines of a text: byte 10 ends one, and opens none at the end of the text
--     all_short ls       no line has more than 512 bytes
--     limits s           at most 65,536 bytes, 2,000 lines, and 512 bytes a line
--     Placed             a line, the text that it stands in, and the place where it begins there
--     placed_from s i ls, placed s
--                        the lines ls of the text s, of which the first has the place i; all lines of s
--     bytes_of l, placed_line l
--                        the bytes of a line that the code holds by its places, and that line whole
--     lines_left it      the lines that are still to come
use Rattle.std.specs.Prelude.{ℕ, ◌+◌, ◌-◌, Bool, true, false, not, ◌&&◌, List, [], ◌∷◌, length, take, drop, ◌==◌, nat_le}
use Rattle.reading.specs.declared.line.TextLine.{TextLine}
use Rattle.reading.specs.declared.lines.Lines.{Lines}

abbrev pub in_line : ℕ → Bool
in_line c = not (c == 10)

-- a byte before the first line
abbrev pub onto : ℕ → List (List ℕ) → List (List ℕ)
onto c [] = (c ∷ []) ∷ []
onto c (l ∷ ls) = (c ∷ l) ∷ ls

abbrev pub by_end : Bool → ℕ → List (List ℕ) → List (List ℕ)
by_end true c ls = [] ∷ ls
by_end false c ls = onto c ls

unfoldable pub lines_of : List ℕ → List (List ℕ)
lines_of [] = []
lines_of (c ∷ cs) = by_end (c == 10) c (lines_of cs)

abbrev pub all_short : List (List ℕ) → Bool
all_short [] = true
all_short (l ∷ ls) = nat_le (length l) 512 && all_short ls

abbrev pub limits : List ℕ → Bool
limits s = nat_le (length s) 65536 && (nat_le (length (lines_of s)) 2000 && all_short (lines_of s))

pub record Placed : Type 0 where
  pub text : List ℕ
  pub from : ℕ
  pub bytes : List ℕ

unfoldable pub placed_from : List ℕ → ℕ → List (List ℕ) → List Placed
placed_from s i [] = []
placed_from s i (l ∷ ls) = record { text = s; from = i; bytes = l } ∷ placed_from s (i + length l + 1) ls

abbrev pub placed : List ℕ → List Placed
placed s = placed_from s 0 (lines_of s)

abbrev pub bytes_of : TextLine → List ℕ
bytes_of l = take (l.end - l.from) (drop l.from l.text.now)

abbrev pub placed_line : TextLine → Placed
placed_line l = record { text = l.text.now; from = l.from; bytes = bytes_of l }

abbrev pub lines_left : Lines → List Placed
lines_left it = placed_from it.text.now it.from (lines_of (drop it.from it.text.now))
