-- The laws of products of ℤ: sums, brackets and signs. Assumes nothing.
use Rattle.std.proofs.Common.{◌≡◌, ℕ, zero, suc, ◌+◌, ◌*◌, ℤ, pos, negsuc, ◌+ℤ◌, ◌*ℤ◌, neg_ℤ, sym, ap, ◌∙◌, ap₂, arith}
use lib.IntN.{*ℤ_comm, *ℤ-zero, *ℤ-negsuc, neg_ℤ-neg_ℤ}
use Rattle.std.proofs.lemmas.Int.{ints}
use borrow.Author.Differences.{up, down, product_is, sum_is_lem}

pub *-distr : (a b c : ℤ) → a *ℤ (b +ℤ c) ≡ a *ℤ b +ℤ a *ℤ c
*-distr a b c =
    let p : up a * (up (b +ℤ c) + down b + down c) ≡ up a * (down (b +ℤ c) + up b + up c) = ap (λ (n : ℕ). up a * n) (sum_is_lem b c) in
    let q : down a * (up (b +ℤ c) + down b + down c) ≡ down a * (down (b +ℤ c) + up b + up c) = ap (λ (n : ℕ). down a * n) (sum_is_lem b c) in
    omega (arith, ints)

pub *-assoc : (a b c : ℤ) → (a *ℤ b) *ℤ c ≡ a *ℤ (b *ℤ c)
*-assoc a b c =
    let p : up (a *ℤ b) * up c ≡ (up a * up b + down a * down b) * up c = ap (λ (n : ℕ). n * up c) (product_is a b).0 in
    let q : up (a *ℤ b) * down c ≡ (up a * up b + down a * down b) * down c = ap (λ (n : ℕ). n * down c) (product_is a b).0 in
    let r : down (a *ℤ b) * up c ≡ (up a * down b + down a * up b) * up c = ap (λ (n : ℕ). n * up c) (product_is a b).1 in
    let s : down (a *ℤ b) * down c ≡ (up a * down b + down a * up b) * down c = ap (λ (n : ℕ). n * down c) (product_is a b).1 in
    let t : up a * up (b *ℤ c) ≡ up a * (up b * up c + down b * down c) = ap (λ (n : ℕ). up a * n) (product_is b c).0 in
    let u : down a * up (b *ℤ c) ≡ down a * (up b * up c + down b * down c) = ap (λ (n : ℕ). down a * n) (product_is b c).0 in
    let v : up a * down (b *ℤ c) ≡ up a * (up b * down c + down b * up c) = ap (λ (n : ℕ). up a * n) (product_is b c).1 in
    let w : down a * down (b *ℤ c) ≡ down a * (up b * down c + down b * up c) = ap (λ (n : ℕ). down a * n) (product_is b c).1 in
    omega (arith, ints)

pub +-distr : (a b c : ℤ) → (a +ℤ b) *ℤ c ≡ a *ℤ c +ℤ b *ℤ c
+-distr a b c = *ℤ_comm (a +ℤ b) c ∙ *-distr c a b ∙ ap₂ ◌+ℤ◌ (*ℤ_comm c a) (*ℤ_comm c b)

pub *-neg : (a b : ℤ) → a *ℤ neg_ℤ b ≡ neg_ℤ (a *ℤ b)
*-neg a (pos zero) = *ℤ-zero a ∙ ap neg_ℤ (sym (*ℤ-zero a))
*-neg a (pos (suc n)) = *ℤ-negsuc a n
*-neg a (negsuc n) = sym (neg_ℤ-neg_ℤ (a *ℤ pos (suc n))) ∙ ap neg_ℤ (sym (*ℤ-negsuc a n))
