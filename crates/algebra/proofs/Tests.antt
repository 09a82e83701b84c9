-- What the answer of a test tells: `MatchBool r I O` is I where r is true, O where it is false. Assumes nothing.
--     by_less                      cond of a < test
--     less, at_most                the test itself
--     and_told                     two tests, the second asked where the first holds
--     same_is, same_not, same_yes  the test of equal numbers
use Rattle.std.proofs.Common.{◌≡◌, Bool, true, false, cond, ◌&&◌, ℤ, ◌≤ℤ◌, ◌<ℤ◌, MatchBool, refl, arith}
use lib.Signed.{lt_z, le_z}
use Rattle.std.proofs.lemmas.Int.{ints}
use Rattle.std.proofs.lemmas.Bool.{and_parts, cond_both}

module _ (I O : Type 0) where
  -- by the two answers of any test
  told : (t : Bool) → (t ≡ true → I) → (t ≡ false → O) → MatchBool t I O
  told true f g = f refl
  told false f g = g refl

  pub by_less : (a b : ℤ) (x y : Bool) → (a <ℤ b → MatchBool x I O) → (b ≤ℤ a → MatchBool y I O) → MatchBool (cond (lt_z a b) x y) I O
  by_less a b x y f g =
      cond_both (lt_z a b) x y (λ z. MatchBool z I O) (λ e. f (omega (arith, ints))) (λ e. g (omega (arith, ints)))

  pub less : (a b : ℤ) → (a <ℤ b → I) → (b ≤ℤ a → O) → MatchBool (lt_z a b) I O
  less a b f g = told (lt_z a b) (λ e. f (omega (arith, ints))) (λ e. g (omega (arith, ints)))

  pub at_most : (a b : ℤ) → (a ≤ℤ b → I) → (b <ℤ a → O) → MatchBool (le_z a b) I O
  at_most a b f g = told (le_z a b) (λ e. f (omega (arith, ints))) (λ e. g (omega (arith, ints)))

  pub and_told : (A : Type 0) (x y : Bool) → MatchBool x A O → (A → MatchBool y I O) → MatchBool (x && y) I O
  and_told A true y h f = f h
  and_told A false y h f = h

-- the test of equal numbers
pub same_is : (a b : ℤ) → (le_z a b && le_z b a) ≡ true → a ≡ b
same_is a b h = let p = and_parts (le_z a b) (le_z b a) h in omega (arith, ints, p.0, p.1)

pub same_yes : (a b : ℤ) → a ≡ b → (le_z a b && le_z b a) ≡ true
same_yes a b e = grind (arith, ints)

pub same_not : (a b : ℤ) → (a ≡ b → ⊥) → (le_z a b && le_z b a) ≡ false
same_not a b h = go (le_z a b && le_z b a) refl
  where
    go : (t : Bool) → (le_z a b && le_z b a) ≡ t → t ≡ false
    go true e = absurd (h (same_is a b e))
    go false e = refl
