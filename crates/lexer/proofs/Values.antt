-- Bounds on what digits stand for. Assumes nothing.
use Rattle.std.proofs.Common.{◌≡◌, ℕ, zero, suc, ◌+◌, ◌-◌, ◌*◌, ◌^◌, ◌<◌, ◌≤◌, Bool, true, false, cond, ◌&&◌, leb, List, [], ◌∷◌, length, IfSome, Some, None, fold, Option, sym, refl, ap, ◌∙◌, mul-le-mul_right, mul_assoc, mul_comm, pow-suc, arith, lit<}
use native.Mathlib.Nat.{pow-le-pow_right}
use Rattle.std.proofs.lemmas.Bool.{and_parts, leb-true}
use Rattle.lexer.specs.Digits.{is_digit, all_digits}
use Rattle.lexer.specs.Tokens.{Num}
use Rattle.lexer.specs.Numbers.{shifted, value_of, part_digits, decimal_of}
use Rattle.lexer.specs.Model.{OfDigits}

pub part_small : (x k : ℕ) → x + 23 ≤ 23 * 10 ^ k → k ≤ 3 → x * 10 ^ (3 - k) ≤ 23000
part_small x zero h l = omega arith
part_small x (suc zero) h l = omega arith
part_small x (suc (suc zero)) h l = omega arith
part_small x (suc (suc (suc zero))) h l = omega arith
part_small x (suc (suc (suc (suc k)))) h l = absurd (omega arith)

-- so many digits stand for less than that power of ten

folded_small : (a : ℕ) (ds : List ℕ) → all_digits ds ≡ true → fold shifted a ds + 1 ≤ (a + 1) * 10 ^ length ds
folded_small a [] h = omega arith
folded_small a (c ∷ cs) h =
    let e = and_parts (is_digit c) (all_digits cs) h in
    let d : c ≤ 57 = leb-true c 57 (and_parts (leb 48 c) (leb c 57) e.0).1 in
    let more : fold shifted (shifted a c) cs + 1 ≤ (shifted a c + 1) * 10 ^ length cs = folded_small (shifted a c) cs e.1 in
    let up : (shifted a c + 1) * 10 ^ length cs ≤ (a + 1) * 10 * 10 ^ length cs = mul-le-mul_right (10 ^ length cs) (omega arith) in
    let p : 10 ^ suc (length cs) ≡ 10 * 10 ^ length cs = pow-suc 10 (length cs) ∙ mul_comm (10 ^ length cs) 10 in
    let q : (a + 1) * 10 ^ suc (length cs) ≡ (a + 1) * 10 * 10 ^ length cs = ap (λ k. (a + 1) * k) p ∙ sym (mul_assoc (a + 1) 10 (10 ^ length cs)) in
    omega (arith, more, up, q)

value_small : (ds : List ℕ) (k : ℕ) → all_digits ds ≡ true → length ds ≤ k → value_of ds < 10 ^ k
value_small ds k h l =
    let p : 10 ^ length ds ≤ 10 ^ k = pow-le-pow_right {n = 10} (lit< tt) l in
    omega (arith, folded_small 0 ds h, p)

thousandths_small : (x k : ℕ) → x < 10 ^ k → k ≤ 3 → x * 10 ^ (3 - k) ≤ 999
thousandths_small x zero h l = omega arith
thousandths_small x (suc zero) h l = omega arith
thousandths_small x (suc (suc zero)) h l = omega arith
thousandths_small x (suc (suc (suc zero))) h l = omega arith
thousandths_small x (suc (suc (suc (suc k)))) h l = absurd (omega arith)

-- a number is at most 9,999,999.999

abbrev Small : Option ℕ → Type 0
Small o = IfSome o (λ v. v ≤ 9999999999)

by_lengths : (w ds : List ℕ) (b c : Bool) → leb (length w) 7 ≡ b → leb (length ds) 3 ≡ c → all_digits w ≡ true → all_digits ds ≡ true → Small (cond (b && c) (Some (value_of w * 1000 + value_of ds * 10 ^ (3 - length ds))) None)
by_lengths w ds true true e f h g =
    let a = value_small w 7 h (leb-true _ 7 e) in
    let k = leb-true _ 3 f in
    let b = thousandths_small (value_of ds) (length ds) (value_small ds (length ds) g (omega arith)) k in
    omega (arith, a, b)
by_lengths w ds true false e f h g = tt
by_lengths w ds false c e f h g = tt

pub decimal_small : (n : Num) → OfDigits n → IfSome (decimal_of n) (λ v. v ≤ 9999999999)
decimal_small n h = by_lengths n.whole (part_digits n.part) (leb (length n.whole) 7) (leb (length (part_digits n.part)) 3) refl refl h.whole h.part
