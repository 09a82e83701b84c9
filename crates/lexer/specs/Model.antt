-- What the code's tokens stand for, and what cutting one answers. Assumes nothing.
--     num_is n, token_is t   the number and the token that the code's n and t stand for
--     tokens line at         the tokens of a line from a place on
--     ahead c, left c        the tokens from the cursor c on, and how many they are
--     Further c d            the cursor d stands in the line of c, and fewer tokens are ahead of it
--     Moves t a b            b is below a, or no more than a where t is the end
--     Digital t              the digits of the token's number, if it has one, are digits
--     Placed line t          the bytes of the token, if it is a name, stand at its place in the line
--     Cut c t d              t is the next token from the cursor c on, and the tokens after it are those from d on
--     Begins i s r           r is the token that s, whose place is i, begins with, and its length; nothing where s is empty
--     Tells o c              what the byte c is by what opens there
--     Capped o r             r is o, cut to 10,000 where it is more
use Rattle.std.specs.Prelude.{◌≡◌, ℕ, ◌+◌, ◌<◌, ◌≤◌, min, true, List, map, length, take, drop, Some, None, Option, slice_index}
use Rattle.std.specs.Borrow.{Bor}
use Rattle.std.specs.Option.{option_map}
use Rattle.std.specs.Char.{to_ascii_lowercase}
use Rattle.lexer.specs.Digits.{is_digit, all_digits}
use Rattle.lexer.specs.Bytes.{starts_name, opens}
use Rattle.lexer.specs.Numbers.{part_digits}
use Rattle.lexer.specs.Tokens as spec
use Rattle.lexer.specs.declared.cursor.Cursor.{Cursor}
use Rattle.lexer.specs.declared.number.Number.{Number}
use Rattle.lexer.specs.declared.symbols.Opens.{Opens}
use Rattle.lexer.specs.declared.symbols.Opens.TheVariants.{Name as AName, Word as AWord, Letter as ALetter, Number as ANumber, Mark as AMark}
use Rattle.lexer.specs.declared.token.Token.{Token}
use Rattle.lexer.specs.declared.token.Token.TheVariants.{Name as Named, Word, Letter as Lettered, Number as Numbered, Mark as Marked, Bad, End}

abbrev pub part_is : Option (Bor (List ℕ)) → Option (List ℕ)
part_is o = option_map (λ r. r.now) o

abbrev pub num_is : Number → spec.Num
num_is n = record { whole = n.whole.now; part = part_is n.part }

abbrev pub token_is : Token → spec.Token
token_is (Named n) = spec.name (map to_ascii_lowercase n.bytes.now) n.place n.closed
token_is (Word l n) = spec.word l (num_is n)
token_is (Lettered l) = spec.letter l
token_is (Numbered n) = spec.number (num_is n)
token_is (Marked m) = spec.mark m
token_is Bad = spec.bad
token_is End = spec.end

abbrev pub tokens : List ℕ → ℕ → List spec.Token
tokens line at = spec.tokens_from 0 at (drop at line)

abbrev pub ahead : Cursor → List spec.Token
ahead c = tokens c.line.now c.at

abbrev pub left : Cursor → ℕ
left c = length (ahead c)

pub record Further (c d : Cursor) : Type 0 where
  pub line : d.line.now ≡ c.line.now
  pub fewer : left d < left c

abbrev pub Moves : Token → ℕ → ℕ → Type 0
Moves (Named n) a b = b < a
Moves (Word l n) a b = b < a
Moves (Lettered l) a b = b < a
Moves (Numbered n) a b = b < a
Moves (Marked m) a b = b < a
Moves Bad a b = b < a
Moves End a b = b ≤ a

pub record OfDigits (n : spec.Num) : Type 0 where
  pub whole : all_digits n.whole ≡ true
  pub part : all_digits (part_digits n.part) ≡ true

abbrev pub Digital : Token → Type 0
Digital (Named n) = Unit {0}
Digital (Word l n) = OfDigits (num_is n)
Digital (Lettered l) = Unit {0}
Digital (Numbered n) = OfDigits (num_is n)
Digital (Marked m) = Unit {0}
Digital Bad = Unit {0}
Digital End = Unit {0}

abbrev pub Placed : List ℕ → Token → Type 0
Placed line (Named n) = n.bytes.now ≡ take (length n.bytes.now) (drop n.place line)
Placed line (Word l n) = Unit {0}
Placed line (Lettered l) = Unit {0}
Placed line (Numbered n) = Unit {0}
Placed line (Marked m) = Unit {0}
Placed line Bad = Unit {0}
Placed line End = Unit {0}

pub record Cut (c : Cursor) (t : Token) (d : Cursor) : Type 0 where
  pub first : spec.first (ahead c) ≡ token_is t
  pub rest : spec.rest (ahead c) ≡ ahead d
  pub digits : Digital t
  pub placed : Placed c.line.now t
  pub moves : Moves t (left c) (left d)
  pub line : d.line.now ≡ c.line.now

pub record Opened (i : ℕ) (s : List ℕ) (t : Token) (n : ℕ) : Type 0 where
  pub is : spec.opened (opens (slice_index s 0) (slice_index s 1)) i s ≡ (token_is t, n)
  pub digits : Digital t
  pub placed : (line : List ℕ) → drop i line ≡ s → Placed line t
  pub stands : 0 < length s
  pub some : 0 < n
  pub high : n ≤ length s + 1

abbrev pub Begins : ℕ → List ℕ → Option (Token × ℕ) → Type 0
Begins i s None = length s ≡ 0
Begins i s (Some r) = Opened i s r.0 r.1

abbrev pub Tells : Option Opens → ℕ → Type 0
Tells (Some AName) c = starts_name c ≡ true
Tells (Some AWord) c = Unit {0}
Tells (Some ALetter) c = Unit {0}
Tells (Some ANumber) c = is_digit c ≡ true
Tells (Some (AMark m)) c = Unit {0}
Tells None c = Unit {0}

abbrev pub Capped : Option ℕ → Option ℕ → Type 0
Capped None r = r ≡ None
Capped (Some n) None = ⊥
Capped (Some n) (Some v) = v ≡ min n 10000
