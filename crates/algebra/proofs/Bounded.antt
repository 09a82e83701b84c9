-- Whole numbers in a machine's width: what was computed is what was meant, as long as it fits. Assumes nothing.
--     bitted w z       z, to the bits of the width w and back
--     Num z x b        the computed z is x, and x is bounded by b
-- Each operation on computed numbers has a lemma that it fits, and one that gives the Num of its result.
use Rattle.std.proofs.Common.{◌≡◌, ℕ, ◌+◌, ◌*◌, ◌^◌, ◌<◌, [], ◌∷◌, ℤ, pos, ◌+ℤ◌, ◌-ℤ◌, ◌*ℤ◌, neg_ℤ, ◌≤ℤ◌, sym, ap, ◌∙◌, subst, ap₂, arith, SFits, to_z, of_z}
use lib.Signed.{mag}
use mir.Syntax.{Width}
use mir.Val.{hbits}
use Rattle.std.proofs.lemmas.Int.{ints, to_z-of_z}
use Rattle.algebra.specs.Sizes.{Bounded}
use Rattle.algebra.proofs.Polynomials.{num, var, ◌⊕◌, ◌⊖◌, ◌⊗◌, identity}
use Rattle.algebra.proofs.Products.{nn_mul}

pub add_bounded : {a b : ℕ} {x y : ℤ} → Bounded a x → Bounded b y → Bounded (a + b) (x +ℤ y)
add_bounded {a} {b} {x} {y} h k = omega (arith, ints)

pub sub_bounded : {a b : ℕ} {x y : ℤ} → Bounded a x → Bounded b y → Bounded (a + b) (x -ℤ y)
sub_bounded {a} {b} {x} {y} h k = omega (arith, ints)

pub mul_bounded : (a b : ℕ) (x y : ℤ) → Bounded a x → Bounded b y → Bounded (a * b) (x *ℤ y)
mul_bounded a b x y h k =
    go (pos (a * b)) (x *ℤ y) ((pos a -ℤ x) *ℤ (pos b +ℤ y)) ((pos a +ℤ x) *ℤ (pos b -ℤ y)) ((pos a -ℤ x) *ℤ (pos b -ℤ y)) ((pos a +ℤ x) *ℤ (pos b +ℤ y))
    (nn_mul (pos a -ℤ x) (pos b +ℤ y) (omega (arith, ints)) (omega (arith, ints)))
    (nn_mul (pos a +ℤ x) (pos b -ℤ y) (omega (arith, ints)) (omega (arith, ints)))
    (nn_mul (pos a -ℤ x) (pos b -ℤ y) (omega (arith, ints)) (omega (arith, ints)))
    (nn_mul (pos a +ℤ x) (pos b +ℤ y) (omega (arith, ints)) (omega (arith, ints)))
    (identity (pos a ∷ pos b ∷ x ∷ y ∷ []) ((var 0 ⊖ var 2) ⊗ (var 1 ⊕ var 3) ⊕ (var 0 ⊕ var 2) ⊗ (var 1 ⊖ var 3)) (num (pos 2) ⊗ (var 0 ⊗ var 1 ⊖ var 2 ⊗ var 3)) tt)
    (identity (pos a ∷ pos b ∷ x ∷ y ∷ []) ((var 0 ⊖ var 2) ⊗ (var 1 ⊖ var 3) ⊕ (var 0 ⊕ var 2) ⊗ (var 1 ⊕ var 3)) (num (pos 2) ⊗ (var 0 ⊗ var 1 ⊕ var 2 ⊗ var 3)) tt)
  where
    go : (m z p q r s : ℤ) → pos 0 ≤ℤ p → pos 0 ≤ℤ q → pos 0 ≤ℤ r → pos 0 ≤ℤ s → p +ℤ q ≡ pos 2 *ℤ (m -ℤ z) → r +ℤ s ≡ pos 2 *ℤ (m +ℤ z) → (neg_ℤ m ≤ℤ z) × (z ≤ℤ m)
    go m z p q r s hp hq hr hs e f = omega (arith, ints)

pub fits : (w : Width) (b : ℕ) (z : ℤ) → Bounded b z → b < 2 ^ hbits w → SFits w z
fits w b z h k = omega (arith, ints)

abbrev pub bitted : Width → ℤ → ℤ
bitted w z = to_z w (of_z w z)

pub record Num (z x : ℤ) (b : ℕ) : Type 0 where
  pub is : z ≡ x
  pub size : Bounded b x

pub computed : {z x : ℤ} {b : ℕ} → Num z x b → Bounded b z
computed {z} {x} {b} h = subst (λ (y : ℤ). Bounded b y) (sym h.is) h.size

module _ (w : Width) where
  -- a number that is handed in
  pub given : (b : ℕ) (x : ℤ) → Bounded b x → b < 2 ^ hbits w → Num (bitted w x) x b
  given b x h k = record { is = to_z-of_z w x (fits w b x h k); size = h }

  -- a number of this width, of which no more is known
  pub whole : (x : ℤ) → SFits w x → Num (bitted w x) x (2 ^ hbits w)
  whole x f = record { is = to_z-of_z w x f; size = omega (arith, ints) }

  -- what a call returned
  pub returned : {r x : ℤ} → mag r < 2 ^ hbits w → r ≡ x → Num (bitted w r) x (2 ^ hbits w)
  returned {r} {x} h e =
      let f : SFits w r = record { sfits = h } in record { is = to_z-of_z w r f ∙ e; size = omega (arith, ints) }

  -- what a call returned that promises a bound
  pub bounded_result : {b : ℕ} {r x : ℤ} → Bounded b r → r ≡ x → b < 2 ^ hbits w → Num (bitted w r) x b
  bounded_result {b} {r} {x} h e l =
      record { is = to_z-of_z w r (fits w b r h l) ∙ e; size = subst (λ (y : ℤ). Bounded b y) e h }

  -- a number brought to this width
  pub cast : {b : ℕ} {z x : ℤ} → Num z x b → b < 2 ^ hbits w → Num (bitted w z) x b
  cast {b} {z} {x} h k =
      record { is = ap (λ (y : ℤ). bitted w y) h.is ∙ to_z-of_z w x (fits w b x h.size k); size = h.size }

  held : {b : ℕ} {z x : ℤ} → Num z x b → b < 2 ^ hbits w → SFits w z
  held {b} {z} {x} h k = subst (λ (m : ℤ). SFits w m) (sym h.is) (fits w b x h.size k)

  module _ {a b : ℕ} {z x y t : ℤ} (h : Num z x a) (k : Num y t b) where
    mul_exact : Num (z *ℤ y) (x *ℤ t) (a * b)
    mul_exact = record { is = ap₂ ◌*ℤ◌ h.is k.is; size = mul_bounded a b x t h.size k.size }

    add_exact : Num (z +ℤ y) (x +ℤ t) (a + b)
    add_exact = record { is = ap₂ ◌+ℤ◌ h.is k.is; size = add_bounded h.size k.size }

    sub_exact : Num (z -ℤ y) (x -ℤ t) (a + b)
    sub_exact = record { is = ap₂ ◌-ℤ◌ h.is k.is; size = sub_bounded h.size k.size }

    pub mul : a * b < 2 ^ hbits w → Num (bitted w (z *ℤ y)) (x *ℤ t) (a * b)
    mul l = cast mul_exact l

    pub add : a + b < 2 ^ hbits w → Num (bitted w (z +ℤ y)) (x +ℤ t) (a + b)
    add l = cast add_exact l

    pub sub : a + b < 2 ^ hbits w → Num (bitted w (z -ℤ y)) (x -ℤ t) (a + b)
    sub l = cast sub_exact l

    pub mul_fits : a * b < 2 ^ hbits w → SFits w (z *ℤ y)
    mul_fits l = held mul_exact l

    pub add_fits : a + b < 2 ^ hbits w → SFits w (z +ℤ y)
    add_fits l = held add_exact l

    pub sub_fits : a + b < 2 ^ hbits w → SFits w (z -ℤ y)
    sub_fits l = held sub_exact l

-- equal bits are equal numbers
pub same_bits : (w : Width) {a b : ℤ} → mag a < 2 ^ hbits w → mag b < 2 ^ hbits w → of_z w a ≡ of_z w b → a ≡ b
same_bits w {a} {b} f g e =
    sym (to_z-of_z w a (record { sfits = f })) ∙ ap (to_z w) e ∙ to_z-of_z w b (record { sfits = g })
