-- What holds of every text, above the definitions of reading. Assumes nothing.
--     EitherCase         texts that are the same up to the case of their letters, mixed in any way, say the same
--     AnyComment         what stands from a semicolon on changes nothing in a line
--     EachSays i ls ms   the lines ls, of which the first has the place i, say ms, each by itself
--     FirstBad n i ls k  of the lines ls, the first with number n and place i, line k is of no form and each before it is of one
--     LineByLine         a text within its limits is read just where each of its lines is, and says what they say;
--                        the line that is refused is the first of no form
use Rattle.std.specs.Prelude.{◌≡◌, ℕ, ◌+◌, true, ◌⊎◌, List, [], ◌∷◌, ◌++◌, map, length, Some, None}
use Rattle.std.specs.Char.{to_ascii_lowercase}
use Rattle.lexer.specs.Bytes.{code}
use Rattle.forms.specs.declared.said.Line.{Line}
use Rattle.sums.specs.Sums.{Sum}
use Rattle.forms.specs.Forms.{Named, line_at}
use Rattle.reading.specs.Lines.{lines_of, limits}
use Rattle.reading.specs.Reading.{lines, bad_line, read_text}

abbrev pub EitherCase : Type 0
EitherCase = (s t : List ℕ) → map to_ascii_lowercase s ≡ map to_ascii_lowercase t → read_text s ≡ read_text t

abbrev pub AnyComment : Type 0
AnyComment = (i : ℕ) (line comment : List ℕ) → line_at i (code line ++ 59 ∷ comment) ≡ line_at i line

abbrev pub EachSays : ℕ → List (List ℕ) → List (Line Sum Named) → Type 0
EachSays i [] [] = Unit {0}
EachSays i [] (m ∷ ms) = ⊥
EachSays i (l ∷ ls) [] = ⊥
EachSays i (l ∷ ls) (m ∷ ms) = (line_at i l ≡ Some m) × EachSays (i + length l + 1) ls ms

abbrev pub FirstBad : ℕ → ℕ → List (List ℕ) → ℕ → Type 0
FirstBad n i [] k = ⊥
FirstBad n i (l ∷ ls) k = ((line_at i l ≡ None) × (k ≡ n)) ⊎ ((m : Line Sum Named) × ((line_at i l ≡ Some m) × FirstBad (n + 1) (i + length l + 1) ls k))

pub record LineByLine : Type 0 where
  pub says : (s : List ℕ) (ms : List (Line Sum Named)) → read_text s ≡ lines ms → EachSays 0 (lines_of s) ms
  pub read : (s : List ℕ) (ms : List (Line Sum Named)) → limits s ≡ true → EachSays 0 (lines_of s) ms → read_text s ≡ lines ms
  pub refused : (s : List ℕ) (k : ℕ) → read_text s ≡ bad_line k → FirstBad 1 0 (lines_of s) k
