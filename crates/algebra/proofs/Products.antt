-- The order of ℤ: chains with equations, and what products do to it. Assumes nothing.
--     ≡-≤, ≤-≡, ≡-<, <-≡, <-≤     a chain of an equation and an order
--     nn_mul, pos_mul, low_mul    the sign of a product, from those of its factors
--     mul-≤, mul-<, cancel-≤      a common factor
--     below_root, between         what a square and a product tell of their factors
use Rattle.std.proofs.Common.{◌≡◌, zero, suc, true, false, [], ◌∷◌, ℤ, pos, negsuc, ◌+ℤ◌, ◌-ℤ◌, ◌*ℤ◌, ◌≤ℤ◌, ◌<ℤ◌, sym, ◌∙◌, arith}
use Rattle.std.specs.Int.Signed.{lt_z, clash_ℤ}
use Rattle.std.proofs.lemmas.Int.{ints, by_lt_z}
use Rattle.algebra.proofs.Polynomials.{num, var, ◌⊕◌, ◌⊖◌, ◌⊗◌, identity}

pub ≡-≤ : {a b c : ℤ} → a ≡ b → b ≤ℤ c → a ≤ℤ c
≡-≤ {a} {b} {c} e h = omega (arith, ints)

pub ≤-≡ : {a b c : ℤ} → a ≤ℤ b → b ≡ c → a ≤ℤ c
≤-≡ {a} {b} {c} h e = omega (arith, ints)

pub ≡-< : {a b c : ℤ} → a ≡ b → b <ℤ c → a <ℤ c
≡-< {a} {b} {c} e h = omega (arith, ints)

pub <-≡ : {a b c : ℤ} → a <ℤ b → b ≡ c → a <ℤ c
<-≡ {a} {b} {c} h e = omega (arith, ints)

pub <-≤ : {a b : ℤ} → a <ℤ b → a ≤ℤ b
<-≤ {a} {b} h = omega (arith, ints)

pub add_nn : {a b : ℤ} → pos 0 ≤ℤ a → pos 0 ≤ℤ b → pos 0 ≤ℤ (a +ℤ b)
add_nn {a} {b} h k = omega (arith, ints)

pub add_pos : {a b : ℤ} → pos 0 <ℤ a → pos 0 ≤ℤ b → pos 0 <ℤ (a +ℤ b)
add_pos {a} {b} h k = omega (arith, ints)

-- where a difference is not below 0, or above it
pub from_diff-≤ : {x y d : ℤ} → pos 0 ≤ℤ d → d ≡ y -ℤ x → x ≤ℤ y
from_diff-≤ {x} {y} {d} h e = omega (arith, ints)

pub from_diff-< : {x y d : ℤ} → pos 0 <ℤ d → d ≡ y -ℤ x → x <ℤ y
from_diff-< {x} {y} {d} h e = omega (arith, ints)

pub nn_mul : (a b : ℤ) → pos 0 ≤ℤ a → pos 0 ≤ℤ b → pos 0 ≤ℤ (a *ℤ b)
nn_mul (pos a) (pos b) h k = omega (arith, ints)
nn_mul (pos a) (negsuc b) h k = absurd k.le
nn_mul (negsuc a) b h k = absurd h.le

pub pos_mul : (a b : ℤ) → pos 0 <ℤ a → pos 0 <ℤ b → pos 0 <ℤ (a *ℤ b)
pos_mul (pos zero) b h k = absurd h.lt
pos_mul (pos (suc a)) (pos zero) h k = absurd k.lt
pos_mul (pos (suc a)) (pos (suc b)) h k = omega (arith, ints)
pos_mul (pos (suc a)) (negsuc b) h k = absurd k.lt
pos_mul (negsuc a) b h k = absurd h.lt

pub square_nn : (a : ℤ) → pos 0 ≤ℤ (a *ℤ a)
square_nn (pos a) = omega (arith, ints)
square_nn (negsuc a) = omega (arith, ints)

pub mul-≤ : (k : ℤ) {a b : ℤ} → pos 0 ≤ℤ k → a ≤ℤ b → (k *ℤ a) ≤ℤ (k *ℤ b)
mul-≤ k {a} {b} hk h =
    from_diff-≤ (nn_mul k (b -ℤ a) hk (omega (arith, ints)))
    (identity (k ∷ a ∷ b ∷ []) (var 0 ⊗ (var 2 ⊖ var 1)) (var 0 ⊗ var 2 ⊖ var 0 ⊗ var 1) tt)

pub mul-< : (k : ℤ) {a b : ℤ} → pos 0 <ℤ k → a <ℤ b → (k *ℤ a) <ℤ (k *ℤ b)
mul-< k {a} {b} hk h =
    from_diff-< (pos_mul k (b -ℤ a) hk (omega (arith, ints)))
    (identity (k ∷ a ∷ b ∷ []) (var 0 ⊗ (var 2 ⊖ var 1)) (var 0 ⊗ var 2 ⊖ var 0 ⊗ var 1) tt)

pub cancel-≤ : (k a b : ℤ) → pos 0 <ℤ k → (k *ℤ a) ≤ℤ (k *ℤ b) → a ≤ℤ b
cancel-≤ k a b hk h = by_lt_z b a (λ lt. clash_ℤ (mul-< k hk lt) h) (λ le. le)

pub low_mul : (a b : ℤ) → pos 0 ≤ℤ a → b ≤ℤ pos 0 → (a *ℤ b) ≤ℤ pos 0
low_mul a b h g = ≤-≡ (mul-≤ a h g) (identity (a ∷ []) (var 0 ⊗ num (pos 0)) (num (pos 0)) tt)

-- a factor of a product above 0 is above 0 where it is not below
pub pos_left : (a b : ℤ) → pos 0 <ℤ (a *ℤ b) → pos 0 ≤ℤ a → pos 0 <ℤ a
pos_left (pos zero) (pos b) h k = omega (arith, ints)
pos_left (pos zero) (negsuc b) h k = omega (arith, ints)
pos_left (pos (suc a)) b h k = omega (arith, ints)
pos_left (negsuc a) b h k = absurd k.le

-- squares compare as their roots do, where the larger root is not below 0
pub below_root : (a b : ℤ) → (a *ℤ a) ≤ℤ (b *ℤ b) → pos 0 ≤ℤ b → a ≤ℤ b
below_root a b h k =
    by_lt_z b a
    (λ lt. clash_ℤ (from_diff-< (pos_mul (a -ℤ b) (a +ℤ b) (omega (arith, ints)) (omega (arith, ints))) (identity (a ∷ b ∷ []) ((var 0 ⊖ var 1) ⊗ (var 0 ⊕ var 1)) (var 0 ⊗ var 0 ⊖ var 1 ⊗ var 1) tt)) h)
    (λ le. le)

-- t·(t − w) is not above 0, w being above 0: t lies from 0 to w
pub between : (t w m : ℤ) → pos 0 <ℤ w → pos 0 <ℤ m → (t *ℤ (t -ℤ w) *ℤ m) ≤ℤ pos 0 → (pos 0 ≤ℤ t) × (t ≤ℤ w)
between t w m hw hm h = (
  by_lt_z t (pos 0) (λ lt. absurd (apart (<-≡ (pos_mul (pos 0 -ℤ t) (w -ℤ t) (omega (arith, ints)) (omega (arith, ints))) (identity (t ∷ w ∷ []) ((num (pos 0) ⊖ var 0) ⊗ (var 1 ⊖ var 0)) (var 0 ⊗ (var 0 ⊖ var 1)) tt)))) (λ le. le),
  by_lt_z w t (λ lt. absurd (apart (pos_mul t (t -ℤ w) (omega (arith, ints)) (omega (arith, ints))))) (λ le. le),
)
  where
    apart : pos 0 <ℤ (t *ℤ (t -ℤ w)) → ⊥
    apart p = clash_ℤ (pos_mul (t *ℤ (t -ℤ w)) m p hm) h

pub lt_z_yes : {a b : ℤ} → a <ℤ b → lt_z a b ≡ true
lt_z_yes {a} {b} h = grind (arith, ints)

pub lt_z_no : {a b : ℤ} → b ≤ℤ a → lt_z a b ≡ false
lt_z_no {a} {b} h = grind (arith, ints)

-- a factor above 0 leaves the sign of the other
pub sign_mul : (a b : ℤ) → pos 0 <ℤ a → lt_z (pos 0) b ≡ lt_z (pos 0) (a *ℤ b)
sign_mul a b h =
    by_lt_z (pos 0) b
    (λ lt. lt_z_yes lt ∙ sym (lt_z_yes (pos_mul a b h lt)))
    (λ le. lt_z_no le ∙ sym (lt_z_no (low_mul a b (<-≤ h) le)))
