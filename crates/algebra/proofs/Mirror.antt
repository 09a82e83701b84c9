-- A fraction point of a circle beyond a line that meets it: s reflected at an axis f = α·s + β·n. Assumes nothing.
-- Throughout R = s·s, N = n·n, c = n·s, and the line is n·x = d with |c| ≤ d < √(R·N); α = K + (d − c)·N, β = K + (d − c)·R, K = R·N − d·c.
use Rattle.std.proofs.Common.{◌≡◌, [], ◌∷◌, ℤ, pos, ◌+ℤ◌, ◌-ℤ◌, ◌*ℤ◌, ◌≤ℤ◌, ◌<ℤ◌, sym, ◌∙◌, arith}
use Rattle.std.proofs.lemmas.Int.{ints}
use Rattle.algebra.specs.declared.vector.Vector.{Vector}
use Rattle.algebra.specs.Plane.{dot, cross, ◌−◌, scaled}
use Rattle.algebra.proofs.Polynomials.{Expr, num, var, ◌⊕◌, ◌⊖◌, ◌⊗◌, identity}
use Rattle.algebra.proofs.Products.{<-≡, nn_mul, pos_mul, add_nn, add_pos, from_diff-<}
use Rattle.algebra.proofs.Vectors.{VecE, dot_e, cross_e, ◌−E◌, scaled_e, mix, mix_e, mirror, mirror_e, v₀, v₁, v₂, dot_nn, dot_pos}

-- it lies on the circle
pub mirror_round : (s f : Vector) → dot (mirror s f) (mirror s f) ≡ (dot f f *ℤ dot f f) *ℤ dot s s
mirror_round s f =
    identity (s.u ∷ s.v ∷ f.u ∷ f.v ∷ []) (dot_e (mirror_e v₀ v₁) (mirror_e v₀ v₁)) ((dot_e v₁ v₁ ⊗ dot_e v₁ v₁) ⊗ dot_e v₀ v₀) tt

-- how far beyond the line it lies
mirror_ahead : (s n : Vector) (a b d : ℤ) → dot n (mirror s (mix a s b n)) -ℤ d *ℤ dot (mix a s b n) (mix a s b n) ≡ pos 2 *ℤ (dot s s *ℤ dot n n -ℤ d *ℤ dot n s) *ℤ a *ℤ b -ℤ (d -ℤ dot n s) *ℤ (dot s s *ℤ a *ℤ a +ℤ dot n n *ℤ b *ℤ b)
mirror_ahead s n a b d =
    identity (s.u ∷ s.v ∷ n.u ∷ n.v ∷ a ∷ b ∷ d ∷ [])
    (dot_e v₁ (mirror_e v₀ (mix_e A v₀ B v₁)) ⊖ L ⊗ dot_e (mix_e A v₀ B v₁) (mix_e A v₀ B v₁))
    (num (pos 2) ⊗ (dot_e v₀ v₀ ⊗ dot_e v₁ v₁ ⊖ L ⊗ dot_e v₁ v₀) ⊗ A ⊗ B ⊖ (L ⊖ dot_e v₁ v₀) ⊗ (dot_e v₀ v₀ ⊗ A ⊗ A ⊕ dot_e v₁ v₁ ⊗ B ⊗ B))
    tt
  where
    A : Expr
    A = var 4

    B : Expr
    B = var 5

    L : Expr
    L = var 6

-- on which side of the chord from s to e it lies
pub mirror_side : (s n e : Vector) (a b : ℤ) → cross (e − s) (mirror s (mix a s b n) − scaled (dot (mix a s b n) (mix a s b n)) s) ≡ pos 2 *ℤ b *ℤ (cross s n *ℤ (a *ℤ (dot e s -ℤ dot s s) +ℤ b *ℤ (dot n e -ℤ dot n s)))
mirror_side s n e a b =
    identity (s.u ∷ s.v ∷ n.u ∷ n.v ∷ e.u ∷ e.v ∷ a ∷ b ∷ [])
    (cross_e (v₂ −E v₀) (mirror_e v₀ (mix_e A v₀ B v₁) −E scaled_e (dot_e (mix_e A v₀ B v₁) (mix_e A v₀ B v₁)) v₀))
    (num (pos 2) ⊗ B ⊗ (cross_e v₀ v₁ ⊗ (A ⊗ (dot_e v₂ v₀ ⊖ dot_e v₀ v₀) ⊕ B ⊗ (dot_e v₁ v₂ ⊖ dot_e v₁ v₀))))
    tt
  where
    A : Expr
    A = var 6

    B : Expr
    B = var 7

cross_mix : (s n : Vector) (a b : ℤ) → cross (mix a s b n) s *ℤ cross (mix a s b n) s ≡ (b *ℤ b) *ℤ (dot s s *ℤ dot n n -ℤ dot n s *ℤ dot n s)
cross_mix s n a b =
    identity (s.u ∷ s.v ∷ n.u ∷ n.v ∷ a ∷ b ∷ []) (cross_e F v₀ ⊗ cross_e F v₀) ((var 5 ⊗ var 5) ⊗ (dot_e v₀ v₀ ⊗ dot_e v₁ v₁ ⊖ dot_e v₁ v₀ ⊗ dot_e v₁ v₀)) tt
  where
    F : VecE
    F = mix_e (var 4) v₀ (var 5) v₁

abbrev pub gauge : ℤ → ℤ → ℤ → ℤ → ℤ
gauge R N c d = R *ℤ N -ℤ d *ℤ c

abbrev pub alpha : ℤ → ℤ → ℤ → ℤ → ℤ
alpha R N c d = gauge R N c d +ℤ (d -ℤ c) *ℤ N

abbrev pub beta : ℤ → ℤ → ℤ → ℤ → ℤ
beta R N c d = gauge R N c d +ℤ (d -ℤ c) *ℤ R

-- at these weights the distance beyond the line is a product of three numbers above 0
factors : (R N c d : ℤ) → pos 2 *ℤ gauge R N c d *ℤ alpha R N c d *ℤ beta R N c d -ℤ (d -ℤ c) *ℤ (R *ℤ alpha R N c d *ℤ alpha R N c d +ℤ N *ℤ beta R N c d *ℤ beta R N c d) ≡ (R *ℤ N -ℤ d *ℤ d) *ℤ (R *ℤ N -ℤ c *ℤ c) *ℤ (pos 2 *ℤ gauge R N c d +ℤ (d -ℤ c) *ℤ (N +ℤ R))
factors R N c d =
    identity (R ∷ N ∷ c ∷ d ∷ [])
    (num (pos 2) ⊗ K ⊗ A ⊗ B ⊖ (L ⊖ C) ⊗ (Q ⊗ A ⊗ A ⊕ M ⊗ B ⊗ B))
    ((Q ⊗ M ⊖ L ⊗ L) ⊗ (Q ⊗ M ⊖ C ⊗ C) ⊗ (num (pos 2) ⊗ K ⊕ (L ⊖ C) ⊗ (M ⊕ Q)))
    tt
  where
    Q : Expr
    Q = var 0

    M : Expr
    M = var 1

    C : Expr
    C = var 2

    L : Expr
    L = var 3

    K : Expr
    K = Q ⊗ M ⊖ L ⊗ C

    A : Expr
    A = K ⊕ (L ⊖ C) ⊗ M

    B : Expr
    B = K ⊕ (L ⊖ C) ⊗ Q

-- d² < r, and x = d² − m is not below 0
slack : (m : ℤ) {d r x : ℤ} → d <ℤ r → pos 0 ≤ℤ x → x ≡ d -ℤ m → pos 0 <ℤ (r -ℤ m)
slack m {d} {r} {x} h k e = omega (arith, ints)

module _ (R N c d : ℤ) (h_r : pos 0 ≤ℤ R) (h_n : pos 0 ≤ℤ N) (low : c ≤ℤ d) (near : pos 0 ≤ℤ (c +ℤ d)) (cuts : (d *ℤ d) <ℤ (R *ℤ N)) where
  gap : pos 0 ≤ℤ (d -ℤ c)
  gap = omega (arith, ints)

  limit_nn : pos 0 ≤ℤ d
  limit_nn = omega (arith, ints)

  slack_start : pos 0 <ℤ (R *ℤ N -ℤ c *ℤ c)
  slack_start =
      slack (c *ℤ c) cuts (nn_mul (d -ℤ c) (c +ℤ d) gap near) (identity (d ∷ c ∷ []) ((var 0 ⊖ var 1) ⊗ (var 1 ⊕ var 0)) (var 0 ⊗ var 0 ⊖ var 1 ⊗ var 1) tt)

  slack_limit : pos 0 <ℤ (R *ℤ N -ℤ d *ℤ d)
  slack_limit = go cuts
    where
      go : {x y : ℤ} → x <ℤ y → pos 0 <ℤ (y -ℤ x)
      go {x} {y} h = omega (arith, ints)

  gauge_pos : pos 0 <ℤ gauge R N c d
  gauge_pos =
      slack (d *ℤ c) cuts (nn_mul d (d -ℤ c) limit_nn gap) (identity (d ∷ c ∷ []) (var 0 ⊗ (var 0 ⊖ var 1)) (var 0 ⊗ var 0 ⊖ var 0 ⊗ var 1) tt)

  pub beta_pos : pos 0 <ℤ beta R N c d
  beta_pos = add_pos gauge_pos (nn_mul (d -ℤ c) R gap h_r)

  factors_pos : pos 0 <ℤ ((R *ℤ N -ℤ d *ℤ d) *ℤ (R *ℤ N -ℤ c *ℤ c) *ℤ (pos 2 *ℤ gauge R N c d +ℤ (d -ℤ c) *ℤ (N +ℤ R)))
  factors_pos =
      pos_mul ((R *ℤ N -ℤ d *ℤ d) *ℤ (R *ℤ N -ℤ c *ℤ c)) (pos 2 *ℤ gauge R N c d +ℤ (d -ℤ c) *ℤ (N +ℤ R))
      (pos_mul (R *ℤ N -ℤ d *ℤ d) (R *ℤ N -ℤ c *ℤ c) slack_limit slack_start)
      (add_pos (pos_mul (pos 2) (gauge R N c d) (record { lt = tt }) gauge_pos) (nn_mul (d -ℤ c) (N +ℤ R) gap (add_nn h_n h_r)))

abbrev pub axis : Vector → Vector → ℤ → Vector
axis s n d = mix (alpha (dot s s) (dot n n) (dot n s) d) s (beta (dot s s) (dot n n) (dot n s) d) n

module _ (s n : Vector) (d : ℤ) (low : dot n s ≤ℤ d) (near : pos 0 ≤ℤ (dot n s +ℤ d)) (cuts : (d *ℤ d) <ℤ (dot s s *ℤ dot n n)) where
  pub weight_pos : pos 0 <ℤ beta (dot s s) (dot n n) (dot n s) d
  weight_pos = beta_pos (dot s s) (dot n n) (dot n s) d (dot_nn s) (dot_nn n) low near cuts

  pub axis_pos : pos 0 <ℤ dot (axis s n d) (axis s n d)
  axis_pos =
      dot_pos (axis s n d) s (<-≡ (pos_mul (b *ℤ b) (dot s s *ℤ dot n n -ℤ dot n s *ℤ dot n s) (pos_mul b b weight_pos weight_pos) (slack_start (dot s s) (dot n n) (dot n s) d (dot_nn s) (dot_nn n) low near cuts)) (sym (cross_mix s n (alpha (dot s s) (dot n n) (dot n s) d) b)))
    where
      b : ℤ
      b = beta (dot s s) (dot n n) (dot n s) d

  pub axis_ahead : (d *ℤ dot (axis s n d) (axis s n d)) <ℤ dot n (mirror s (axis s n d))
  axis_ahead =
      from_diff-< (factors_pos (dot s s) (dot n n) (dot n s) d (dot_nn s) (dot_nn n) low near cuts)
      (sym (mirror_ahead s n (alpha (dot s s) (dot n n) (dot n s) d) (beta (dot s s) (dot n n) (dot n s) d) d ∙ factors (dot s s) (dot n n) (dot n s) d))
