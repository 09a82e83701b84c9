-- What a text says, and what reading one does to a program. Assumes nothing.
--     Text                       the lines of a text, as data; or it is too large; or its first line of no form
--     formless p                 whether a line has none of the forms
--     read_lines n i ls          what the lines ls say, of which the first has the number n and the place i
--     read_text s                what a text says
--     refusal t                  the refusal of such a text, if it is one
--     bad t                      the number of the first line of no form, if there is one
--     said s h                   what a line h that is held with the text s says
--     held_text p, held_lines p  the text of a program, and what its lines say
--     Read s p q r               reading s turns the program p into q and answers r
use Rattle.std.specs.Prelude.{◌≡◌, ℕ, ◌+◌, Bool, true, false, List, [], ◌∷◌, map, length, take, Some, None, Ok, Err, vec_items, Option, Result}
use Rattle.std.specs.Option.{is_none}
use Rattle.motions.specs.declared.refusal.Reason.TheVariants.{TextSize, LineForm}
use Rattle.motions.specs.declared.refusal.Refusal.{Refusal}
use Rattle.motions.specs.Refusals.{refused_on}
use Rattle.forms.specs.declared.said.Line.{Line}
use Rattle.sums.specs.Sums.{Sum}
use Rattle.forms.specs.Forms.{Named, line_at}
use Rattle.forms.specs.Model.{line_is}
use Rattle.reading.specs.Lines.{lines_of, limits, Placed}
use Rattle.reading.specs.declared.program.Held.{Held}
use Rattle.reading.specs.declared.program.Program.{Program}

pub data Text : Type 0 where
  lines : List (Line Sum Named) → Text
  too_large : Text
  bad_line : ℕ → Text

abbrev pub above : Line Sum Named → Text → Text
above l (lines ls) = lines (l ∷ ls)
above l too_large = too_large
above l (bad_line n) = bad_line n

abbrev pub or_bad : Option (Line Sum Named) → ℕ → (Unit {0} → Text) → Text
or_bad None n more = bad_line n
or_bad (Some l) n more = above l (more tt)

abbrev pub formless : Placed → Bool
formless p = is_none (line_at p.from p.bytes)

unfoldable pub read_lines : ℕ → ℕ → List (List ℕ) → Text
read_lines n i [] = lines []
read_lines n i (l ∷ ls) = or_bad (line_at i l) n (λ u. read_lines (n + 1) (i + length l + 1) ls)

abbrev pub by_limits : Bool → List ℕ → Text
by_limits false s = too_large
by_limits true s = read_lines 1 0 (lines_of s)

abbrev pub read_text : List ℕ → Text
read_text s = by_limits (limits s) s

abbrev pub refusal : Text → Option Refusal
refusal (lines ls) = None
refusal too_large = Some (refused_on TextSize 0)
refusal (bad_line n) = Some (refused_on LineForm n)

abbrev pub bad : Text → Option ℕ
bad (lines ls) = None
bad too_large = None
bad (bad_line n) = Some n

abbrev pub said : List ℕ → Held → Line Sum Named
said s h = line_is (take h.end s) h.line

abbrev pub held_text : Program → List ℕ
held_text p = p.text.now

abbrev pub held_lines : Program → List (Line Sum Named)
held_lines p = map (said (held_text p)) (vec_items p.lines)

pub record Filled (s : List ℕ) (q : Program) : Type 0 where
  pub text : held_text q ≡ s
  pub lines : read_text s ≡ lines (held_lines q)

pub record Kept (s : List ℕ) (p q : Program) (e : Refusal) : Type 0 where
  pub same : q ≡ p
  pub why : refusal (read_text s) ≡ Some e

abbrev pub Read : List ℕ → Program → Program → Result (Unit {0}) Refusal → Type 0
Read s p q (Ok u) = Filled s q
Read s p q (Err e) = Kept s p q e
