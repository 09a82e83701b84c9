-- What the digits of a number stand for. Assumes nothing.
--     value_of ds        what a run of digits stands for
--     integer_of n       what n stands for, if it has no point
--     digits_of most n   the same, if it has at most so many digits
--     decimal_of n       n in thousandths, if it has at most 7 digits before the point and 3 after it
use Rattle.std.specs.Prelude.{ℕ, ◌+◌, ◌-◌, ◌*◌, ◌^◌, cond, ◌&&◌, List, [], length, Some, None, fold, Option, nat_le}
use Rattle.lexer.specs.Tokens.{Num}

abbrev pub shifted : ℕ → ℕ → ℕ
shifted v c = v * 10 + (c - 48)

abbrev pub value_of : List ℕ → ℕ
value_of ds = fold shifted 0 ds

abbrev pub unpointed : Option (List ℕ) → ℕ → Option ℕ
unpointed None v = Some v
unpointed (Some ds) v = None

abbrev pub integer_of : Num → Option ℕ
integer_of n = unpointed n.part (value_of n.whole)

abbrev pub digits_of : ℕ → Num → Option ℕ
digits_of most n = cond (nat_le (length n.whole) most) (integer_of n) None

abbrev pub part_digits : Option (List ℕ) → List ℕ
part_digits None = []
part_digits (Some ds) = ds

abbrev pub decimal_of : Num → Option ℕ
decimal_of n =
    let ds = part_digits n.part in
    cond (nat_le (length n.whole) 7 && nat_le (length ds) 3) (Some (value_of n.whole * 1000 + value_of ds * 10 ^ (3 - length ds))) None
