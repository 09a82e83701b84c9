-- Sums: as trees, how their tokens are read, and what they are worth. Assumes nothing.
--     Sum                         its terms in their order, each with true where it is taken away
--     Term                        a number in thousandths, an R parameter, or a sum in brackets
--     single minus v              the sum of one number, with its sign
--     Reading A                   reads an A from the front of the tokens: it and the tokens after it, or None
--     a >>= k                     k of what a holds, and None where it holds nothing
--     sign_of t                   the sign that a token is, true for minus
--     take_mark m ts              the tokens after the mark m, where they begin with it
--     term_of d, sum_in d         reads a term, a sum, while d brackets may be opened in it
--     bracket_of d                reads what follows an opening bracket, up to its closing one, while d - 1 more may be opened
--     sum_of                      reads a sum
--     worth ps t, total ps acc s  what a term is worth, and a sum added to acc, in thousandths, ps being the parameters;
--                                 added from left to right, and None where a partial result is beyond the range
use Rattle.std.specs.Prelude.{ℕ, zero, suc, Bool, true, false, cond, List, length, ℤ, pos, ◌+ℤ◌, ◌-ℤ◌, Some, None, Option, ◌==◌, slice_index_or}
use Rattle.sums.specs.Ranges.{in_range}
use Rattle.lexer.specs.Tokens.{Token, name, word, letter, number, mark, bad, end, first, rest}
use Rattle.lexer.specs.Numbers.{digits_of, decimal_of}
use Rattle.lexer.specs.declared.symbols.Letter.{Letter}
use Rattle.lexer.specs.declared.symbols.Letter.TheVariants.{X, Y, Z, I, J, K, F, S, T, M, G, N, R, P, Other}
use Rattle.lexer.specs.declared.symbols.Mark.{Mark}
use Rattle.lexer.specs.declared.symbols.Mark.TheVariants.{Plus, Minus, Equals, Opening, Closing, Colon, Same, Differs, Less, Greater, AtMost, AtLeast}

infixl 1 ◌>>=◌
mutual
  pub data Term : Type 0 where
    value : ℕ → Term
    parameter : ℕ → Term
    group : Sum → Term

  pub data Sum : Type 0 where
    done : Sum
    also : Bool → Term → Sum → Sum

-- a sum of one number, with its sign
abbrev pub single : Bool → ℕ → Sum
single minus v = also minus (value v) done

-- Reading

abbrev pub Reading : Type 0 → Type 0
Reading A = List Token → Option (A × List Token)

abbrev pub ◌>>=◌ : {A B : Type 0} → Option A → (A → Option B) → Option B
◌>>=◌ None k = None
◌>>=◌ (Some a) k = k a

-- the first of two readings where the test passes, and else the second
abbrev pub pick : {A : Type 0} → Bool → (List Token → A) → (List Token → A) → List Token → A
pick true f g ts = f ts
pick false f g ts = g ts

abbrev pub letter_number : Letter → ℕ
letter_number X = 0
letter_number Y = 1
letter_number Z = 2
letter_number I = 3
letter_number J = 4
letter_number K = 5
letter_number F = 6
letter_number S = 7
letter_number T = 8
letter_number M = 9
letter_number G = 10
letter_number N = 11
letter_number R = 12
letter_number P = 13
letter_number Other = 14

abbrev pub is_the : Letter → Letter → Bool
is_the a b = letter_number a == letter_number b

abbrev pub mark_number : Mark → ℕ
mark_number Plus = 0
mark_number Minus = 1
mark_number Equals = 2
mark_number Opening = 3
mark_number Closing = 4
mark_number Colon = 5
mark_number Same = 6
mark_number Differs = 7
mark_number Less = 8
mark_number Greater = 9
mark_number AtMost = 10
mark_number AtLeast = 11

abbrev pub is_mark : Mark → Token → Bool
is_mark m (name b p c) = false
is_mark m (word l n) = false
is_mark m (letter l) = false
is_mark m (number n) = false
is_mark m (mark k) = mark_number m == mark_number k
is_mark m bad = false
is_mark m end = false

abbrev pub take_mark : Mark → List Token → Option (List Token)
take_mark m ts = cond (is_mark m (first ts)) (Some (rest ts)) None

abbrev pub mark_sign : Mark → Option Bool
mark_sign Plus = Some false
mark_sign Minus = Some true
mark_sign Equals = None
mark_sign Opening = None
mark_sign Closing = None
mark_sign Colon = None
mark_sign Same = None
mark_sign Differs = None
mark_sign Less = None
mark_sign Greater = None
mark_sign AtMost = None
mark_sign AtLeast = None

abbrev pub sign_of : Token → Option Bool
sign_of (name b p c) = None
sign_of (word l n) = None
sign_of (letter l) = None
sign_of (number n) = None
sign_of (mark k) = mark_sign k
sign_of bad = None
sign_of end = None

-- whether a sign that may be missing is minus, and the tokens after it
abbrev pub minus_of : Option Bool → Bool
minus_of None = false
minus_of (Some m) = m

abbrev pub after_sign : Option Bool → List Token → List Token
after_sign None ts = ts
after_sign (Some m) ts = rest ts

-- a term and what comes after it
abbrev pub joined : Bool → Option (Term × List Token) → Reading Sum → Option (Sum × List Token)
joined m None more = None
joined m (Some t) more = more t.1 >>= (λ s. Some (also m t.0 s.0, s.1))

abbrev pub by_sign : Option Bool → (Bool → Option (Sum × List Token)) → List Token → Option (Sum × List Token)
by_sign None k ts = Some (done, ts)
by_sign (Some m) k ts = k m

-- any number of a sign and a term; f is above the number of tokens
unfoldable pub more_of : Reading Term → ℕ → Reading Sum
more_of term zero ts = None
more_of term (suc f) ts = by_sign (sign_of (first ts)) (λ m. joined m (term (rest ts)) (λ u. more_of term f u)) ts

-- an optional sign, a term, and more
abbrev pub sum_by : Reading Term → Reading Sum
sum_by term ts = joined (minus_of (sign_of (first ts))) (term (after_sign (sign_of (first ts)) ts)) (λ u. more_of term (suc (length u)) u)

abbrev pub closed : Option (Sum × List Token) → Option (Term × List Token)
closed None = None
closed (Some s) = take_mark Closing s.1 >>= (λ ts. Some (group s.0, ts))

-- a term by its first token: a number, R with one or two digits, or what `bracket` reads after an opening bracket
abbrev pub term_by : Reading Term → Token → Reading Term
term_by bracket (name b p c) ts = None
term_by bracket (word l n) ts = cond (is_the R l) (Some n) None >>= (λ m. digits_of 2 m >>= (λ k. Some (parameter k, ts)))
term_by bracket (letter l) ts = None
term_by bracket (number n) ts = decimal_of n >>= (λ v. Some (value v, ts))
term_by bracket (mark k) ts = pick (is_mark Opening (mark k)) bracket (λ u. None) ts
term_by bracket bad ts = None
term_by bracket end ts = None

unfoldable pub bracket_of : ℕ → Reading Term
bracket_of zero ts = None
bracket_of (suc d) ts = closed (sum_by (λ u. term_by (λ v. bracket_of d v) (first u) (rest u)) ts)

abbrev pub term_of : ℕ → Reading Term
term_of d ts = term_by (λ u. bracket_of d u) (first ts) (rest ts)

abbrev pub sum_in : ℕ → Reading Sum
sum_in d ts = sum_by (λ u. term_of d u) ts

abbrev pub sum_of : Reading Sum
sum_of ts = sum_in 8 ts

-- Worth

abbrev pub ranged : ℤ → Option ℤ
ranged z = cond (in_range z) (Some z) None

abbrev pub plus : Bool → Option ℤ → Option ℤ → Option ℤ
plus m None y = None
plus m (Some x) None = None
plus true (Some x) (Some y) = ranged (x -ℤ y)
plus false (Some x) (Some y) = ranged (x +ℤ y)

unfoldable mutual
  pub worth : List ℤ → Term → Option ℤ
  worth ps (value n) = Some (pos n)
  worth ps (parameter k) = Some (slice_index_or ps k (pos 0))
  worth ps (group s) = total ps (Some (pos 0)) s

  pub total : List ℤ → Option ℤ → Sum → Option ℤ
  total ps acc done = acc
  total ps acc (also m t s) = total ps (plus m acc (worth ps t)) s
