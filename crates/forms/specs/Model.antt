-- What the readers of the code answer over the bytes of a line. Assumes nothing.
--     read_by f r             what the tokens say where the code reads r: f of what it holds, and the tokens from its cursor on
--     Past c r                r, if anything, comes to a cursor in the line of c that has fewer tokens ahead
--     axes_is, word_is, words_is, name_at, target_is, test_is, statement_is, line_is
--                             what the code holds by places in a line, held whole
use Rattle.std.specs.Prelude.{ℕ, List, map, take, drop, IfSome, Option}
use Rattle.std.specs.Option.{option_map}
use Rattle.std.specs.Char.{to_ascii_lowercase}
use Rattle.lexer.specs.Tokens.{Token}
use Rattle.lexer.specs.Model.{ahead, Further}
use Rattle.lexer.specs.declared.cursor.Cursor.{Cursor}
use Rattle.sums.specs.Sums.{Sum}
use Rattle.sums.specs.Model.{value_is}
use Rattle.sums.specs.declared.value.Value.{Value}
use Rattle.forms.specs.Forms.{Named}
use Rattle.forms.specs.Words.{Each}
use Rattle.forms.specs.declared.said.Line.{Line}
use Rattle.forms.specs.declared.said.Place.{Place}
use Rattle.forms.specs.declared.said.Statement.{Statement}
use Rattle.forms.specs.declared.said.Statement.TheVariants as say
use Rattle.forms.specs.declared.said.Target.{Target}
use Rattle.forms.specs.declared.said.Target.TheVariants as to
use Rattle.forms.specs.declared.said.Test.{Test}
use Rattle.forms.specs.declared.said.Word.{Word}
use Rattle.forms.specs.declared.said.Word.TheVariants.{Function, Axis, Centre, Feed, Speed, Tool, Action, Area}
use Rattle.forms.specs.declared.said.Words.{Words}

abbrev pub read_by : {A B : Type 0} → (B → A) → Option (B × Cursor) → Option (A × List Token)
read_by f r = option_map (λ y. (f y.0, ahead y.1)) r

abbrev pub Past : {B : Type 0} → Cursor → Option (B × Cursor) → Type 0
Past c r = IfSome r (λ y. Further c y.1)

-- What the code holds by places

abbrev pub axes_is : List ℕ → Each Value → Each Sum
axes_is line a = record { x = option_map (value_is line) a.x; y = option_map (value_is line) a.y; z = option_map (value_is line) a.z }

abbrev pub word_is : List ℕ → Word Value → Word Sum
word_is line (Function g) = Function g
word_is line (Axis a v) = Axis a (value_is line v)
word_is line (Centre a v) = Centre a (value_is line v)
word_is line (Feed v) = Feed v
word_is line (Speed v) = Speed v
word_is line (Tool v) = Tool v
word_is line (Action v) = Action v
word_is line (Area on) = Area on

abbrev pub words_is : List ℕ → Words Value → Words Sum
words_is line ws = record { groups = ws.groups; axes = axes_is line ws.axes; centres = axes_is line ws.centres; feed = ws.feed; speed = ws.speed; tool = ws.tool; action = ws.action; area = ws.area }

abbrev pub name_at : List ℕ → Place → Named
name_at line p = record { bytes = map to_ascii_lowercase (take p.length (drop p.from line)); place = p.from }

abbrev pub target_is : List ℕ → Target Place → Target Named
target_is line (to.Label p) = to.Label (name_at line p)
target_is line (to.Number n) = to.Number n

abbrev pub test_is : List ℕ → Test Value → Test Sum
test_is line t = record { left = value_is line t.left; how = t.how; right = value_is line t.right }

abbrev pub statement_is : List ℕ → Statement Value Place → Statement Sum Named
statement_is line say.Nothing = say.Nothing
statement_is line (say.Words ws) = say.Words (words_is line ws)
statement_is line (say.Limits upper a) = say.Limits upper (axes_is line a)
statement_is line (say.Dwell p) = say.Dwell p
statement_is line (say.Shift adds a) = say.Shift adds (axes_is line a)
statement_is line (say.Assign k v) = say.Assign k (value_is line v)
statement_is line (say.Jump forward t test) = say.Jump forward (target_is line t) (option_map (test_is line) test)
statement_is line (say.Repeat p n) = say.Repeat (name_at line p) n

abbrev pub line_is : List ℕ → Line Value Place → Line Sum Named
line_is line l = record { number = l.number; label = option_map (name_at line) l.label; says = statement_is line l.says }
