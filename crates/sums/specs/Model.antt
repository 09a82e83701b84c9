-- What the readers of sums answer over the bytes of a line. Assumes nothing.
--     weighed W o            what W makes of what the tokens say, o, and the tokens after it
--     Walked W o r           the code reads it as r: nothing for nothing, else what W makes of it and the cursor after it
--     Signed c r             r is the sign at the cursor c, true for minus, and the cursor after it
--     sum_at line at         the sum that stands at a place
--     value_is line v        the sum that a value which a line holds stands for
use Rattle.std.specs.Prelude.{◌≡◌, ℕ, Bool, List, Some, None, Option}
use Rattle.std.specs.Option.{option_map}
use Rattle.lexer.specs.Tokens.{Token, first, rest}
use Rattle.lexer.specs.Model.{tokens, ahead, Further}
use Rattle.lexer.specs.declared.cursor.Cursor.{Cursor}
use Rattle.sums.specs.Sums.{Sum, done, single, sign_of, sum_of}
use Rattle.sums.specs.declared.value.Value.{Value}
use Rattle.sums.specs.declared.value.Value.TheVariants as held

abbrev pub weighed : {A B : Type 0} → (A → B) → Option (A × List Token) → Option (B × List Token)
weighed W o = option_map (λ x. (W x.0, x.1)) o

abbrev pub Walked : {A B : Type 0} → (A → B) → Option (A × List Token) → Option (B × Cursor) → Type 0
Walked W o r = weighed W o ≡ option_map (λ y. (y.0, ahead y.1)) r

abbrev pub Signed : Cursor → Option (Bool × Cursor) → Type 0
Signed c None = sign_of (first (ahead c)) ≡ None
Signed c (Some y) = (sign_of (first (ahead c)) ≡ Some y.0) × (rest (ahead c) ≡ ahead y.1) × Further c y.1

-- the sum that was read; the empty one, which no line has, where none was
abbrev pub sum_from : Option (Sum × List Token) → Sum
sum_from None = done
sum_from (Some s) = s.0

abbrev pub sum_at : List ℕ → ℕ → Sum
sum_at line at = sum_from (sum_of (tokens line at))

abbrev pub value_is : List ℕ → Value → Sum
value_is line (held.Number minus v) = single minus v
value_is line (held.Sum at) = sum_at line at
