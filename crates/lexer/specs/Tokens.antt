-- The tokens of a line. Assumes nothing.
--     Num                the digits of a number: those before the point, and those after it if there is one
--     Token              a name has its bytes with capitals made small, its place, and whether a blank or the end
--                        follows; a word is a letter with a number directly after it; `end` stands after the last token
--     num_of s           the number that s begins with
--     mark_length m      how many bytes the mark m has
--     opened o i s       the token that s begins with, where o opens, and its length. i is the place of s
--     token_at i s       the token that s begins with, and its length; None at a blank. i is the place of s
--     tokens_from k i s  the tokens of s, whose place is i, after k bytes that are passed over
--     tokens_of i line   the tokens of a line whose place is i
--     first ts, rest ts  the next token, and the tokens after it
use Rattle.std.specs.Prelude.{ℕ, zero, suc, ◌+◌, ◌-◌, Bool, true, false, cond, ◌&&◌, List, [], ◌∷◌, map, length, take, drop, Some, None, Option, ◌==◌, slice_index, slice_index_or}
use Rattle.std.specs.Char.{to_ascii_lowercase}
use Rattle.lexer.specs.Digits.{is_digit}
use Rattle.std.specs.List.{prefix_len}
use Rattle.lexer.specs.Bytes.{is_blank, in_name, letter_of, opens, code}
use Rattle.lexer.specs.declared.symbols.Letter.{Letter}
use Rattle.lexer.specs.declared.symbols.Mark.{Mark}
use Rattle.lexer.specs.declared.symbols.Mark.TheVariants.{Plus, Minus, Equals, Opening, Closing, Colon, Same, Differs, Less, Greater, AtMost, AtLeast}
use Rattle.lexer.specs.declared.symbols.Opens.{Opens}
use Rattle.lexer.specs.declared.symbols.Opens.TheVariants.{Name as AName, Word as AWord, Letter as ALetter, Number as ANumber, Mark as AMark}

pub record Num : Type 0 where
  pub whole : List ℕ
  pub part : Option (List ℕ)

pub data Token : Type 0 where
  name : List ℕ → ℕ → Bool → Token
  word : Letter → Num → Token
  letter : Letter → Token
  number : Num → Token
  mark : Mark → Token
  bad : Token
  end : Token

-- whether a point with a digit after it comes first, and then the digits after the point
abbrev pub pointed : List ℕ → Bool
pointed s = slice_index s 0 == 46 && is_digit (slice_index s 1)

abbrev pub part_of : Bool → List ℕ → Option (List ℕ)
part_of true s = Some (take (prefix_len is_digit (drop 1 s)) (drop 1 s))
part_of false s = None

abbrev pub num_of : List ℕ → Num
num_of s =
    let n = prefix_len is_digit s in
    record { whole = take n s; part = part_of (pointed (drop n s)) (drop n s) }

abbrev pub part_length : Option (List ℕ) → ℕ
part_length None = 0
part_length (Some ds) = suc (length ds)

abbrev pub num_length : Num → ℕ
num_length n = length n.whole + part_length n.part

abbrev pub name_of : ℕ → List ℕ → Token
name_of i s =
    let n = prefix_len in_name s in
    name (map to_ascii_lowercase (take n s)) i (is_blank (slice_index_or s n 32))

abbrev pub mark_length : Mark → ℕ
mark_length Plus = 1
mark_length Minus = 1
mark_length Equals = 1
mark_length Opening = 1
mark_length Closing = 1
mark_length Colon = 1
mark_length Same = 2
mark_length Differs = 2
mark_length Less = 1
mark_length Greater = 1
mark_length AtMost = 2
mark_length AtLeast = 2

abbrev pub opened : Option Opens → ℕ → List ℕ → Token × ℕ
opened (Some AName) i s = (name_of i s, prefix_len in_name s)
opened (Some AWord) i s = (word (letter_of (to_ascii_lowercase (slice_index s 0))) (num_of (drop 1 s)), 1 + num_length (num_of (drop 1 s)))
opened (Some ALetter) i s = (letter (letter_of (to_ascii_lowercase (slice_index s 0))), 1)
opened (Some ANumber) i s = (number (num_of s), num_length (num_of s))
opened (Some (AMark m)) i s = (mark m, mark_length m)
opened None i s = (bad, 1)

abbrev pub token_at : ℕ → List ℕ → Option (Token × ℕ)
token_at i s = cond (is_blank (slice_index s 0)) None (Some (opened (opens (slice_index s 0) (slice_index s 1)) i s))

-- the token, and the tokens after the rest of its bytes
abbrev pub followed : Option (Token × ℕ) → (ℕ → List Token) → List Token
followed None k = k 0
followed (Some t) k = t.0 ∷ k (t.1 - 1)

unfoldable pub tokens_from : ℕ → ℕ → List ℕ → List Token
tokens_from k i [] = []
tokens_from zero i (c ∷ cs) = followed (token_at i (c ∷ cs)) (λ k. tokens_from k (i + 1) cs)
tokens_from (suc k) i (c ∷ cs) = tokens_from k (i + 1) cs

abbrev pub tokens_of : ℕ → List ℕ → List Token
tokens_of i line = tokens_from 0 i (code line)

abbrev pub first : List Token → Token
first ts = slice_index_or ts 0 end

abbrev pub rest : List Token → List Token
rest ts = drop 1 ts
