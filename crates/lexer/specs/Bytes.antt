-- Bytes: which are blanks, letters and parts of names, and what opens at one. Assumes nothing.
--     is_blank, is_letter    a tabulator, a carriage return or a space; a letter of either case
--     starts_name, in_name   a byte that a name may begin with; one that it may go on with
--     letter_of c            the address letter that the small letter c is
--     mark_of c d            the mark that opens at the bytes c and d, one of two bytes first
--     opens c d              what opens at the byte c, which is no blank, where d follows it (0 past the end)
--     in_code c              the byte c opens no comment
--     code s                 the bytes of a line before its comment
use Rattle.std.specs.Prelude.{ℕ, Bool, cond, not, ◌&&◌, ◌||◌, List, take, Some, None, Option, ◌==◌}
use Rattle.std.specs.List.{prefix_len}
use Rattle.std.specs.Option.{option_map}
use Rattle.lexer.specs.Digits.{within, is_digit}
use Rattle.lexer.specs.declared.symbols.Letter.{Letter}
use Rattle.lexer.specs.declared.symbols.Letter.TheVariants.{X, Y, Z, I, J, K, F, S, T, M, G, N, R, P, Other}
use Rattle.lexer.specs.declared.symbols.Mark.{Mark}
use Rattle.lexer.specs.declared.symbols.Mark.TheVariants.{Plus, Minus, Equals, Opening, Closing, Colon, Same, Differs, Less, Greater, AtMost, AtLeast}
use Rattle.lexer.specs.declared.symbols.Opens.{Opens}
use Rattle.lexer.specs.declared.symbols.Opens.TheVariants.{Name as AName, Word as AWord, Letter as ALetter, Number as ANumber, Mark as AMark}

abbrev pub is_blank : ℕ → Bool
is_blank c = c == 9 || (c == 13 || c == 32)

abbrev pub is_letter : ℕ → Bool
is_letter c = within 65 90 c || within 97 122 c

abbrev pub starts_name : ℕ → Bool
starts_name c = is_letter c || c == 95

abbrev pub in_name : ℕ → Bool
in_name c = starts_name c || is_digit c

abbrev pub letter_of : ℕ → Letter
letter_of c =
    cond (c == 120) X
    (cond (c == 121) Y
    (cond (c == 122) Z
    (cond (c == 105) I
    (cond (c == 106) J
    (cond (c == 107) K
    (cond (c == 102) F
    (cond (c == 115) S
    (cond (c == 116) T
    (cond (c == 109) M
    (cond (c == 103) G
    (cond (c == 110) N
    (cond (c == 114) R
    (cond (c == 112) P Other)))))))))))))

abbrev pub mark_of : ℕ → ℕ → Option Mark
mark_of c d =
    cond (c == 61 && d == 61) (Some Same)
    (cond (c == 60 && d == 62) (Some Differs)
    (cond (c == 60 && d == 61) (Some AtMost)
    (cond (c == 62 && d == 61) (Some AtLeast)
    (cond (c == 43) (Some Plus)
    (cond (c == 45) (Some Minus)
    (cond (c == 61) (Some Equals)
    (cond (c == 40) (Some Opening)
    (cond (c == 41) (Some Closing)
    (cond (c == 58) (Some Colon)
    (cond (c == 60) (Some Less)
    (cond (c == 62) (Some Greater) None)))))))))))

abbrev pub opens : ℕ → ℕ → Option Opens
opens c d =
    cond (starts_name c && starts_name d) (Some AName)
    (cond (is_letter c && is_digit d) (Some AWord)
    (cond (is_letter c) (Some ALetter)
    (cond (is_digit c) (Some ANumber) (option_map AMark (mark_of c d)))))

abbrev pub in_code : ℕ → Bool
in_code c = not (c == 59)

abbrev pub code : List ℕ → List ℕ
code s = take (prefix_len in_code s) s
