-- Polynomial identities over ℤ, decided by computing. Assumes nothing.
--     Expr               what is written: numbers, variables by their place in a list, ⊕ ⊖ ⊗
--     value ρ e          its value where ρ lists the variables' values
--     Poly, normal e     nested Horner form, and e brought to it
--     identity ρ l r tt  value ρ l ≡ value ρ r, where the difference of l and r has no coefficient but 0; `tt` is the computed test
use Rattle.std.proofs.Common.{◌≡◌, ℕ, zero, suc, Bool, true, false, cond, T, List, [], ◌∷◌, ℤ, pos, negsuc, ◌+ℤ◌, ◌-ℤ◌, ◌*ℤ◌, neg_ℤ, sym, refl, ap, ◌∙◌, ap₂, arith}
use lib.IntN.{*ℤ_comm, +ℤ_comm, +ℤ_assoc, *ℤ-zero, +ℤ_idr, +ℤ_idl}
use Rattle.std.proofs.lemmas.Int.{ints}
use Rattle.algebra.proofs.Integers.{*-distr, *-assoc, +-distr}

pub data Expr : Type 0 where
  num : ℤ → Expr
  var : ℕ → Expr
  ◌⊕◌ : Expr → Expr → Expr
  ◌⊖◌ : Expr → Expr → Expr
  ◌⊗◌ : Expr → Expr → Expr

infixl 6 ◌⊕◌ ◌⊖◌
infixl 7 ◌⊗◌
abbrev pub at : List ℤ → ℕ → ℤ
at [] i = pos 0
at (x ∷ ρ) zero = x
at (x ∷ ρ) (suc i) = at ρ i

abbrev pub value : List ℤ → Expr → ℤ
value ρ (num c) = c
value ρ (var i) = at ρ i
value ρ (a ⊕ b) = value ρ a +ℤ value ρ b
value ρ (a ⊖ b) = value ρ a -ℤ value ρ b
value ρ (a ⊗ b) = value ρ a *ℤ value ρ b

-- horner p q is p + x·q, with x the first variable, which p has not: its first is the next
pub data Poly : Type 0 where
  const : ℤ → Poly
  horner : Poly → Poly → Poly

abbrev pub eval : List ℤ → Poly → ℤ
eval ρ (const c) = c
eval [] (horner p q) = eval [] p
eval (x ∷ ρ) (horner p q) = eval ρ p +ℤ x *ℤ eval (x ∷ ρ) q

abbrev pub lift : Poly → Poly
lift p = horner p (const (pos 0))

-- x times p
abbrev pub shift : Poly → Poly
shift (const (pos zero)) = const (pos 0)
shift (const (pos (suc n))) = horner (const (pos 0)) (const (pos (suc n)))
shift (const (negsuc n)) = horner (const (pos 0)) (const (negsuc n))
shift (horner p q) = horner (const (pos 0)) (horner p q)

abbrev pub addc : ℤ → Poly → Poly
addc a (const b) = const (a +ℤ b)
addc a (horner p q) = horner (addc a p) q

abbrev pub add : Poly → Poly → Poly
add (const a) y = addc a y
add (horner p q) (const b) = horner (addc b p) q
add (horner p q) (horner r s) = horner (add p r) (add q s)

abbrev pub scale : ℤ → Poly → Poly
scale a (const b) = const (a *ℤ b)
scale a (horner p q) = horner (scale a p) (scale a q)

-- each coefficient of y, a polynomial in the later variables, through f
abbrev pub each : (Poly → Poly) → Poly → Poly
each f (const b) = lift (f (const b))
each f (horner r s) = horner (f r) (each f s)

abbrev pub mul : Poly → Poly → Poly
mul (const a) y = scale a y
mul (horner p q) (const b) = scale b (horner p q)
mul (horner p q) (horner r s) = add (each (mul p) (horner r s)) (shift (mul q (horner r s)))

abbrev pub variable : ℕ → Poly
variable zero = horner (const (pos 0)) (const (pos 1))
variable (suc i) = lift (variable i)

abbrev pub normal : Expr → Poly
normal (num c) = const c
normal (var i) = variable i
normal (a ⊕ b) = add (normal a) (normal b)
normal (a ⊖ b) = add (normal a) (scale (negsuc 0) (normal b))
normal (a ⊗ b) = mul (normal a) (normal b)

abbrev pub is_zero : Poly → Bool
is_zero (const (pos zero)) = true
is_zero (const (pos (suc n))) = false
is_zero (const (negsuc n)) = false
is_zero (horner p q) = cond (is_zero p) (is_zero q) false

-- ---- soundness
lift_is : (ρ : List ℤ) (p : Poly) → (x : ℤ) → eval (x ∷ ρ) (lift p) ≡ eval ρ p
lift_is ρ p x = ap (λ (z : ℤ). eval ρ p +ℤ z) (*ℤ-zero x) ∙ +ℤ_idr (eval ρ p)

shift_zero : (p : Poly) → eval [] (shift p) ≡ pos 0
shift_zero (const (pos zero)) = refl
shift_zero (const (pos (suc n))) = refl
shift_zero (const (negsuc n)) = refl
shift_zero (horner p q) = refl

shift_is : (ρ : List ℤ) (x : ℤ) (p : Poly) → eval (x ∷ ρ) (shift p) ≡ x *ℤ eval (x ∷ ρ) p
shift_is ρ x (const (pos zero)) = sym (*ℤ-zero x)
shift_is ρ x (const (pos (suc n))) = +ℤ_idl (x *ℤ pos (suc n))
shift_is ρ x (const (negsuc n)) = +ℤ_idl (x *ℤ negsuc n)
shift_is ρ x (horner p q) = +ℤ_idl (x *ℤ (eval ρ p +ℤ x *ℤ eval (x ∷ ρ) q))

addc_is : (ρ : List ℤ) (a : ℤ) (p : Poly) → eval ρ (addc a p) ≡ a +ℤ eval ρ p
addc_is ρ a (const b) = refl
addc_is [] a (horner p q) = addc_is [] a p
addc_is (x ∷ ρ) a (horner p q) =
    ap (λ (z : ℤ). z +ℤ x *ℤ eval (x ∷ ρ) q) (addc_is ρ a p) ∙ +ℤ_assoc a (eval ρ p) (x *ℤ eval (x ∷ ρ) q)

regroup : (a b c d : ℤ) → (a +ℤ b) +ℤ (c +ℤ d) ≡ (a +ℤ c) +ℤ (b +ℤ d)
regroup a b c d = omega (arith, ints)

swap_last : (a b c : ℤ) → (a +ℤ b) +ℤ c ≡ (b +ℤ c) +ℤ a
swap_last a b c = omega (arith, ints)

add_is : (ρ : List ℤ) (p q : Poly) → eval ρ (add p q) ≡ eval ρ p +ℤ eval ρ q
add_is ρ (const a) y = addc_is ρ a y
add_is [] (horner p q) (const b) = addc_is [] b p ∙ +ℤ_comm b (eval [] p)
add_is (x ∷ ρ) (horner p q) (const b) =
    ap (λ (z : ℤ). z +ℤ x *ℤ eval (x ∷ ρ) q) (addc_is ρ b p) ∙ swap_last b (eval ρ p) (x *ℤ eval (x ∷ ρ) q)
add_is [] (horner p q) (horner r s) = add_is [] p r
add_is (x ∷ ρ) (horner p q) (horner r s) =
    ap₂ (λ (y z : ℤ). y +ℤ x *ℤ z) (add_is ρ p r) (add_is (x ∷ ρ) q s) ∙ ap (λ (z : ℤ). (eval ρ p +ℤ eval ρ r) +ℤ z) (*-distr x (eval (x ∷ ρ) q) (eval (x ∷ ρ) s)) ∙ regroup (eval ρ p) (eval ρ r) (x *ℤ eval (x ∷ ρ) q) (x *ℤ eval (x ∷ ρ) s)

-- a (x b) is x (a b)
inward : (a x b : ℤ) → a *ℤ (x *ℤ b) ≡ x *ℤ (a *ℤ b)
inward a x b = sym (*-assoc a x b) ∙ ap (λ (z : ℤ). z *ℤ b) (*ℤ_comm a x) ∙ *-assoc x a b

scale_is : (ρ : List ℤ) (a : ℤ) (p : Poly) → eval ρ (scale a p) ≡ a *ℤ eval ρ p
scale_is ρ a (const b) = refl
scale_is [] a (horner p q) = scale_is [] a p
scale_is (x ∷ ρ) a (horner p q) =
    ap₂ (λ (y z : ℤ). y +ℤ x *ℤ z) (scale_is ρ a p) (scale_is (x ∷ ρ) a q) ∙ ap (λ (z : ℤ). a *ℤ eval ρ p +ℤ z) (sym (inward a x (eval (x ∷ ρ) q))) ∙ sym (*-distr a (eval ρ p) (x *ℤ eval (x ∷ ρ) q))

each_is : (ρ : List ℤ) (x m : ℤ) (f : Poly → Poly) → ((y : Poly) → eval ρ (f y) ≡ m *ℤ eval ρ y) → (y : Poly) → eval (x ∷ ρ) (each f y) ≡ m *ℤ eval (x ∷ ρ) y
each_is ρ x m f h (const b) = lift_is ρ (f (const b)) x ∙ h (const b)
each_is ρ x m f h (horner r s) =
    ap₂ (λ (y z : ℤ). y +ℤ x *ℤ z) (h r) (each_is ρ x m f h s) ∙ ap (λ (z : ℤ). m *ℤ eval ρ r +ℤ z) (sym (inward m x (eval (x ∷ ρ) s))) ∙ sym (*-distr m (eval ρ r) (x *ℤ eval (x ∷ ρ) s))

mul_is : (ρ : List ℤ) (p q : Poly) → eval ρ (mul p q) ≡ eval ρ p *ℤ eval ρ q
mul_is ρ (const a) y = scale_is ρ a y
mul_is ρ (horner p q) (const b) = scale_is ρ b (horner p q) ∙ *ℤ_comm b (eval ρ (horner p q))
mul_is [] (horner p q) (horner r s) =
    add_is [] (each (mul p) (horner r s)) (shift (mul q (horner r s))) ∙ ap₂ (λ (y z : ℤ). y +ℤ z) (mul_is [] p r) (shift_zero (mul q (horner r s))) ∙ +ℤ_idr (eval [] p *ℤ eval [] r)
mul_is (x ∷ ρ) (horner p q) (horner r s) =
    add_is (x ∷ ρ) (each (mul p) (horner r s)) (shift (mul q (horner r s))) ∙ ap₂ (λ (y z : ℤ). y +ℤ z) (each_is ρ x (eval ρ p) (mul p) (mul_is ρ p) (horner r s)) (shift_is ρ x (mul q (horner r s)) ∙ ap (λ (z : ℤ). x *ℤ z) (mul_is (x ∷ ρ) q (horner r s)) ∙ sym (*-assoc x (eval (x ∷ ρ) q) (eval (x ∷ ρ) (horner r s)))) ∙ sym (+-distr (eval ρ p) (x *ℤ eval (x ∷ ρ) q) (eval (x ∷ ρ) (horner r s)))

times_one : (x : ℤ) → x *ℤ pos 1 ≡ x
times_one x = omega (arith, ints)

minus_one : (x : ℤ) → negsuc 0 *ℤ x ≡ neg_ℤ x
minus_one x = omega (arith, ints)

variable_is : (ρ : List ℤ) (i : ℕ) → eval ρ (variable i) ≡ at ρ i
variable_is [] zero = refl
variable_is [] (suc i) = variable_is [] i
variable_is (x ∷ ρ) zero = +ℤ_idl (x *ℤ pos 1) ∙ times_one x
variable_is (x ∷ ρ) (suc i) = lift_is ρ (variable i) x ∙ variable_is ρ i

normal_is : (ρ : List ℤ) (e : Expr) → eval ρ (normal e) ≡ value ρ e
normal_is ρ (num c) = refl
normal_is ρ (var i) = variable_is ρ i
normal_is ρ (a ⊕ b) = add_is ρ (normal a) (normal b) ∙ ap₂ ◌+ℤ◌ (normal_is ρ a) (normal_is ρ b)
normal_is ρ (a ⊖ b) =
    add_is ρ (normal a) (scale (negsuc 0) (normal b)) ∙ ap₂ ◌+ℤ◌ (normal_is ρ a) (scale_is ρ (negsuc 0) (normal b) ∙ minus_one (eval ρ (normal b)) ∙ ap neg_ℤ (normal_is ρ b))
normal_is ρ (a ⊗ b) = mul_is ρ (normal a) (normal b) ∙ ap₂ ◌*ℤ◌ (normal_is ρ a) (normal_is ρ b)

both_0 : (a b : Bool) → T (cond a b false) → T a
both_0 true b t = tt
both_0 false b t = t

both_1 : (a b : Bool) → T (cond a b false) → T b
both_1 true b t = t
both_1 false b t = absurd t

is_zero_is : (ρ : List ℤ) (p : Poly) → T (is_zero p) → eval ρ p ≡ pos 0
is_zero_is ρ (const (pos zero)) t = refl
is_zero_is ρ (const (pos (suc n))) t = absurd t
is_zero_is ρ (const (negsuc n)) t = absurd t
is_zero_is [] (horner p q) t = is_zero_is [] p (both_0 (is_zero p) (is_zero q) t)
is_zero_is (x ∷ ρ) (horner p q) t =
    ap₂ (λ (y z : ℤ). y +ℤ x *ℤ z) (is_zero_is ρ p (both_0 (is_zero p) (is_zero q) t)) (is_zero_is (x ∷ ρ) q (both_1 (is_zero p) (is_zero q) t)) ∙ +ℤ_idl (x *ℤ pos 0) ∙ *ℤ-zero x

-- the equation holds at every ρ
abbrev pub Identical : Expr → Expr → Type 0
Identical l r = T (is_zero (normal (l ⊖ r)))

difference : (a b : ℤ) → a -ℤ b ≡ pos 0 → a ≡ b
difference a b e = omega (arith, ints)

pub identity : (ρ : List ℤ) (l r : Expr) → Identical l r → value ρ l ≡ value ρ r
identity ρ l r t = difference (value ρ l) (value ρ r) (sym (normal_is ρ (l ⊖ r)) ∙ is_zero_is ρ (normal (l ⊖ r)) t)
