-- The forms of a line, over its tokens. Assumes nothing.
--     Named               a name with capitals made small, and its place in the text
--     ended a ts          a, where no token is left
--     signed_of           reads what follows an axis letter that no number follows directly: a sign and a number, or = and a sum
--     one_word t          reads the word that begins with the token t
--     all_words ts        the words from here to the end of the line
--     axes_line ts        the axis words, where the line has no others
--     limits_line upper, dwell_line, shift_line adds, assign_line n, jump_line forward test, if_line, repeat_line
--                         what follows G25 or G26, G4, TRANS or ATRANS, R and the number n, GOTOF or GOTOB, IF, REPEAT
--     statement_of ts     what a line says after its number and its label
--     form_of ts          a line: an optional N number, an optional label and its colon, and a statement
--     line_at place line  what a line says that begins at a place of the text
use Rattle.std.specs.Prelude.{ℕ, zero, suc, Bool, true, false, cond, List, length, Some, None, Option, ◌==◌, nat_le}
use Rattle.std.specs.Option.{option_map}
use Rattle.lexer.specs.Digits.{within}
use Rattle.lexer.specs.Tokens.{Num, Token, name, word, letter, number, mark, bad, end, first, rest, tokens_of}
use Rattle.lexer.specs.Numbers.{integer_of, digits_of, decimal_of}
use Rattle.lexer.specs.declared.symbols.Letter.{Letter}
use Rattle.lexer.specs.declared.symbols.Letter.TheVariants.{N, P, R, G}
use Rattle.lexer.specs.declared.symbols.Mark.{Mark}
use Rattle.lexer.specs.declared.symbols.Mark.TheVariants.{Plus, Minus, Equals, Opening, Closing, Colon, Same, Differs, Less, Greater, AtMost, AtLeast}
use Rattle.forms.specs.Kinds.{kind_of, command_of, function_of}
use Rattle.sums.specs.Sums.{Sum, single, Reading, ◌>>=◌, pick, is_the, take_mark, sign_of, sum_of}
use Rattle.forms.specs.Words.{Each, no_words, entered, only_axes, some_axis}
use Rattle.forms.specs.declared.kinds.Kind.{Kind}
use Rattle.forms.specs.declared.kinds.Kind.TheVariants.{Axis as OfAxis, Centre as OfCentre, Feed as OfFeed, Speed as OfSpeed, Tool as OfTool, Action as OfAction, Function as OfFunction}
use Rattle.forms.specs.declared.kinds.Command.{Command}
use Rattle.forms.specs.declared.kinds.Command.TheVariants.{Walimon, Walimof, Trans, Atrans, Gotof, Gotob, If, Repeat}
use Rattle.forms.specs.declared.said.Comparison.{Comparison}
use Rattle.forms.specs.declared.said.Comparison.TheVariants as by
use Rattle.forms.specs.declared.said.Line.{Line}
use Rattle.forms.specs.declared.said.Pause.{Pause}
use Rattle.forms.specs.declared.said.Pause.TheVariants as wait
use Rattle.forms.specs.declared.said.Statement.{Statement}
use Rattle.forms.specs.declared.said.Statement.TheVariants as say
use Rattle.forms.specs.declared.said.Target.{Target}
use Rattle.forms.specs.declared.said.Target.TheVariants as to
use Rattle.forms.specs.declared.said.Test.{Test}
use Rattle.forms.specs.declared.said.Word.{Word}
use Rattle.forms.specs.declared.said.Word.TheVariants.{Function, Axis, Centre, Feed, Speed, Tool, Action, Area}
use Rattle.forms.specs.declared.said.Words.{Words}

pub record Named : Type 0 where
  pub bytes : List ℕ
  pub place : ℕ

abbrev pub provided : Bool → Option (Unit {0})
provided true = Some tt
provided false = None

abbrev pub is_end : Token → Bool
is_end (name b p c) = false
is_end (word l n) = false
is_end (letter l) = false
is_end (number n) = false
is_end (mark k) = false
is_end bad = false
is_end end = true

abbrev pub ended : {A : Type 0} → A → List Token → Option A
ended a ts = cond (is_end (first ts)) (Some a) None

-- a number that stands apart from any letter
abbrev pub numeral : Token → Option Num
numeral (name b p c) = None
numeral (word l n) = None
numeral (letter l) = None
numeral (number n) = Some n
numeral (mark k) = None
numeral bad = None
numeral end = None

-- the number directly after a certain letter
abbrev pub after : Letter → Token → Option Num
after a (name b p c) = None
after a (word l n) = cond (is_the a l) (Some n) None
after a (letter l) = None
after a (number n) = None
after a (mark k) = None
after a bad = None
after a end = None

-- a certain letter, and no number directly after it
abbrev pub is_alone : Letter → Token → Bool
is_alone a (name b p c) = false
is_alone a (word l n) = false
is_alone a (letter l) = is_the a l
is_alone a (number n) = false
is_alone a (mark k) = false
is_alone a bad = false
is_alone a end = false

-- Words

abbrev pub signed_by : Option Bool → Reading Sum
signed_by None ts = take_mark Equals ts >>= (λ u. sum_of u)
signed_by (Some m) ts = numeral (first (rest ts)) >>= (λ n. decimal_of n >>= (λ v. Some (single m v, rest (rest ts))))

abbrev pub signed_of : Reading Sum
signed_of ts = signed_by (sign_of (first ts)) ts

-- a letter and the number directly after it
abbrev pub word_of : Kind → Num → Option (Word Sum)
word_of (OfAxis a) n = option_map (λ v. Axis a (single false v)) (decimal_of n)
word_of (OfCentre a) n = option_map (λ v. Centre a (single false v)) (decimal_of n)
word_of OfFeed n = option_map (λ v. Feed v) (decimal_of n)
word_of OfSpeed n = option_map (λ v. Speed v) (decimal_of n)
word_of OfTool n = option_map (λ v. Tool v) (digits_of 4 n)
word_of OfAction n = option_map (λ v. Action v) (digits_of 2 n)
word_of OfFunction n = option_map (λ g. Function g) (function_of n)

-- what the value of a letter alone makes a word
abbrev pub alone : {V : Type 0} → Kind → Option (V → Word V)
alone (OfAxis a) = Some (λ s. Axis a s)
alone (OfCentre a) = Some (λ s. Centre a s)
alone OfFeed = None
alone OfSpeed = None
alone OfTool = None
alone OfAction = None
alone OfFunction = None

abbrev pub spaced_of : Kind → Reading (Word Sum)
spaced_of k ts = alone k >>= (λ f. option_map (λ s. (f s.0, s.1)) (signed_of ts))

abbrev pub area_of : Command → Option (Word Sum)
area_of Walimon = Some (Area true)
area_of Walimof = Some (Area false)
area_of Trans = None
area_of Atrans = None
area_of Gotof = None
area_of Gotob = None
area_of If = None
area_of Repeat = None

abbrev pub one_word : Token → Reading (Word Sum)
one_word (name b p c) ts = option_map (λ w. (w, ts)) (command_of b c >>= area_of)
one_word (word l n) ts = option_map (λ w. (w, ts)) (kind_of l >>= (λ k. word_of k n))
one_word (letter l) ts = kind_of l >>= (λ k. spaced_of k ts)
one_word (number n) ts = None
one_word (mark k) ts = None
one_word bad ts = None
one_word end ts = None

-- a word beside those before it, and then the rest
abbrev pub beside : Option (Word Sum × List Token) → Words Sum → (Words Sum → List Token → Option (Words Sum)) → Option (Words Sum)
beside None ws more = None
beside (Some w) ws more = entered w.0 ws >>= (λ u. more u w.1)

-- words up to the end of the line, beside those before them; f is above the number of tokens
unfoldable pub words_from : ℕ → Words Sum → List Token → Option (Words Sum)
words_from zero ws ts = None
words_from (suc f) ws ts = pick (is_end (first ts)) (λ u. Some ws) (λ u. beside (one_word (first u) (rest u)) ws (λ vs v. words_from f vs v)) ts

abbrev pub all_words : List Token → Option (Words Sum)
all_words ts = words_from (suc (length ts)) no_words ts

-- Statements

abbrev pub Says : Type 0
Says = Option (Statement Sum Named)

abbrev pub words_line : List Token → Says
words_line ts = all_words ts >>= (λ ws. Some (say.Words ws))

abbrev pub axes_line : List Token → Option (Each Sum)
axes_line ts = all_words ts >>= only_axes

abbrev pub limits_line : Bool → List Token → Says
limits_line upper ts = axes_line ts >>= (λ a. some_axis a >>= (λ b. Some (say.Limits upper b)))

abbrev pub shift_line : Bool → List Token → Says
shift_line adds ts = axes_line ts >>= (λ a. Some (say.Shift adds a))

abbrev pub pause_by : Kind → Num → Option Pause
pause_by (OfAxis a) n = None
pause_by (OfCentre a) n = None
pause_by OfFeed n = option_map (λ v. wait.Feed v) (decimal_of n)
pause_by OfSpeed n = option_map (λ v. wait.Speed v) (decimal_of n)
pause_by OfTool n = None
pause_by OfAction n = None
pause_by OfFunction n = None

abbrev pub pause_of : Token → Option Pause
pause_of (name b p c) = None
pause_of (word l n) = kind_of l >>= (λ k. pause_by k n)
pause_of (letter l) = None
pause_of (number n) = None
pause_of (mark k) = None
pause_of bad = None
pause_of end = None

abbrev pub dwell_line : List Token → Says
dwell_line ts = pause_of (first ts) >>= (λ p. ended (say.Dwell p) (rest ts))

abbrev pub assign_line : Num → List Token → Says
assign_line n ts = digits_of 2 n >>= (λ k. take_mark Equals ts >>= (λ us. sum_of us >>= (λ s. ended (say.Assign k s.0) s.1)))

abbrev pub name_from : Token → Option Named
name_from (name b p c) = cond (nat_le (length b) 32) (Some (record { bytes = b; place = p })) None
name_from (word l n) = None
name_from (letter l) = None
name_from (number n) = None
name_from (mark k) = None
name_from bad = None
name_from end = None

-- a token of which f makes something
abbrev pub one_token : {A : Type 0} → (Token → Option A) → Reading A
one_token f ts = option_map (λ a. (a, rest ts)) (f (first ts))

-- a name of at most 32 bytes; the number directly after N
abbrev pub name_of : Reading Named
name_of ts = one_token name_from ts

abbrev pub after_n : Reading Num
after_n ts = one_token (after N) ts

-- a name, or else N and 1 to 5 digits
abbrev pub target_by : Option (Named × List Token) → Reading (Target Named)
target_by (Some b) ts = Some (to.Label b.0, b.1)
target_by None ts = after_n ts >>= (λ n. digits_of 5 n.0 >>= (λ k. Some (to.Number k, n.1)))

abbrev pub target_of : Reading (Target Named)
target_of ts = target_by (name_of ts) ts

abbrev pub jump_line : Bool → Option (Test Sum) → List Token → Says
jump_line forward test ts = target_of ts >>= (λ g. ended (say.Jump forward g.0 test) g.1)

-- true for GOTOF, false for GOTOB
abbrev pub direction : Command → Option Bool
direction Walimon = None
direction Walimof = None
direction Trans = None
direction Atrans = None
direction Gotof = Some true
direction Gotob = Some false
direction If = None
direction Repeat = None

abbrev pub direction_from : Token → Option Bool
direction_from (name b p c) = command_of b c >>= direction
direction_from (word l n) = None
direction_from (letter l) = None
direction_from (number n) = None
direction_from (mark k) = None
direction_from bad = None
direction_from end = None

abbrev pub direction_of : Reading Bool
direction_of ts = one_token direction_from ts

abbrev pub mark_comparison : Mark → Option Comparison
mark_comparison Plus = None
mark_comparison Minus = None
mark_comparison Equals = None
mark_comparison Opening = None
mark_comparison Closing = None
mark_comparison Colon = None
mark_comparison Same = Some by.Same
mark_comparison Differs = Some by.Differs
mark_comparison Less = Some by.Less
mark_comparison Greater = Some by.Greater
mark_comparison AtMost = Some by.AtMost
mark_comparison AtLeast = Some by.AtLeast

abbrev pub comparison_from : Token → Option Comparison
comparison_from (name b p c) = None
comparison_from (word l n) = None
comparison_from (letter l) = None
comparison_from (number n) = None
comparison_from (mark k) = mark_comparison k
comparison_from bad = None
comparison_from end = None

abbrev pub comparison_of : Reading Comparison
comparison_of ts = one_token comparison_from ts

-- two sums and the comparison between them
abbrev pub test_of : Reading (Test Sum)
test_of ts = sum_of ts >>= (λ a. comparison_of a.1 >>= (λ h. sum_of h.1 >>= (λ b. Some (record { left = a.0; how = h.0; right = b.0 }, b.1))))

abbrev pub if_line : List Token → Says
if_line ts = test_of ts >>= (λ t. direction_of t.1 >>= (λ d. jump_line d.0 (Some t.0) d.1))

-- P, an equals sign and a number from 1 to 9999
abbrev pub times_of : Reading ℕ
times_of ts = provided (is_alone P (first ts)) >>= (λ u. take_mark Equals (rest ts) >>= (λ us. numeral (first us) >>= (λ n. integer_of n >>= (λ v. cond (within 1 9999 v) (Some (v, rest us)) None))))

abbrev pub repeat_line : List Token → Says
repeat_line ts = name_of ts >>= (λ b. pick (is_end (first b.1)) (λ us. Some (say.Repeat b.0 None)) (λ us. times_of us >>= (λ v. ended (say.Repeat b.0 (Some v.0)) v.1)) b.1)

-- a line that begins with the function n; ts are all its tokens, us those after that one
abbrev pub function_line : Num → List Token → List Token → Says
function_line n ts us = integer_of n >>= (λ g. cond (g == 25) (limits_line false us) (cond (g == 26) (limits_line true us) (cond (g == 4) (dwell_line us) (words_line ts))))

-- a line that begins with a command; ts and us as before
abbrev pub command_line : Command → List Token → List Token → Says
command_line Walimon ts us = words_line ts
command_line Walimof ts us = words_line ts
command_line Trans ts us = shift_line false us
command_line Atrans ts us = shift_line true us
command_line Gotof ts us = jump_line true None us
command_line Gotob ts us = jump_line false None us
command_line If ts us = if_line us
command_line Repeat ts us = repeat_line us

abbrev pub statement_by : Token → List Token → List Token → Says
statement_by (name b p c) ts us = command_of b c >>= (λ k. command_line k ts us)
statement_by (word l n) ts us = cond (is_the R l) (assign_line n us) (cond (is_the G l) (function_line n ts us) (words_line ts))
statement_by (letter l) ts us = words_line ts
statement_by (number n) ts us = None
statement_by (mark k) ts us = None
statement_by bad ts us = None
statement_by end ts us = Some say.Nothing

abbrev pub statement_of : List Token → Says
statement_of ts = statement_by (first ts) ts (rest ts)

-- a name before a colon is a label
abbrev pub label_by : Option (List Token) → Reading (Option Named)
label_by None ts = Some (None, ts)
label_by (Some us) ts = name_of ts >>= (λ b. Some (Some b.0, us))

abbrev pub label_of : Reading (Option Named)
label_of ts = label_by (take_mark Colon (rest ts)) ts

-- N takes 1 to 5 digits
abbrev pub number_by : Option (Num × List Token) → Reading (Option ℕ)
number_by None ts = Some (None, ts)
number_by (Some n) ts = digits_of 5 n.0 >>= (λ k. Some (Some k, n.1))

abbrev pub number_of : Reading (Option ℕ)
number_of ts = number_by (after_n ts) ts

abbrev pub form_of : List Token → Option (Line Sum Named)
form_of ts = number_of ts >>= (λ n. label_of n.1 >>= (λ l. statement_of l.1 >>= (λ s. Some (record { number = n.0; label = l.0; says = s }))))

abbrev pub line_at : ℕ → List ℕ → Option (Line Sum Named)
line_at place line = form_of (tokens_of place line)
