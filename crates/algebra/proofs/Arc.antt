-- An arc about the origin against a half plane n·x ≤ d: the test `stays` answers exactly. Assumes nothing.
--     kept                   one point beyond, off the arc, keeps every point of the arc within
--     out_start .. in_clear  the cases of the test
--     arc_told               the whole: yes with every point within, no with a point beyond
use Rattle.std.proofs.Common.{◌≡◌, true, false, [], ◌∷◌, ℤ, pos, ◌+ℤ◌, ◌-ℤ◌, ◌*ℤ◌, ◌≤ℤ◌, ◌<ℤ◌, MatchBool, sym, refl, ap, ◌∙◌, arith}
use lib.IntN.{*ℤ_comm}
use Rattle.std.proofs.lemmas.Int.{ints}
use Rattle.algebra.specs.declared.vector.Vector.{Vector}
use Rattle.algebra.specs.Plane.{dot, cross, ◌−◌, scaled, Within, Beyond, side, stays}
use Rattle.algebra.proofs.Tests.{by_less, less}
use Rattle.algebra.proofs.Polynomials.{Expr, num, var, ◌⊖◌, ◌⊗◌, identity}
use Rattle.algebra.proofs.Products.{≡-≤, ≤-≡, ≡-<, <-≡, <-≤, nn_mul, pos_mul, low_mul, square_nn, mul-≤, mul-<, cancel-≤, below_root}
use Rattle.algebra.proofs.Vectors.{VecE, dot_e, cross_e, ◌−E◌, scaled_e, mirror, v₀, v₁, v₂, scaled_square, scaled_dot, lagrange}
use Rattle.algebra.proofs.Chord.{chord}
use Rattle.algebra.proofs.Mirror.{alpha, beta, axis, weight_pos, axis_pos, axis_ahead, mirror_round, mirror_side}

-- the side of the chord, at a common denominator m of p / k and the ends
scaled_side : (s e p : Vector) (k w m : ℤ) → m ≡ k *ℤ w → cross (scaled m e − scaled m s) (scaled w p − scaled m s) ≡ (m *ℤ w) *ℤ cross (e − s) (p − scaled k s)
scaled_side s e p k w m is =
    rw is (identity (s.u ∷ s.v ∷ e.u ∷ e.v ∷ p.u ∷ p.v ∷ k ∷ w ∷ [])
    (cross_e (scaled_e (K ⊗ W) v₁ −E scaled_e (K ⊗ W) v₀) (scaled_e W v₂ −E scaled_e (K ⊗ W) v₀))
    (((K ⊗ W) ⊗ W) ⊗ cross_e (v₁ −E v₀) (v₂ −E scaled_e K v₀)) tt)
  where
    K : Expr
    K = var 6

    W : Expr
    W = var 7

swapped : (a b c : ℤ) → (a *ℤ b) *ℤ c ≡ b *ℤ (c *ℤ a)
swapped a b c = identity (a ∷ b ∷ c ∷ []) ((var 0 ⊗ var 1) ⊗ var 2) (var 1 ⊗ (var 2 ⊗ var 0)) tt

squares : (a b c : ℤ) → (a *ℤ a) *ℤ ((b *ℤ b) *ℤ c) ≡ ((a *ℤ b) *ℤ (a *ℤ b)) *ℤ c
squares a b c = identity (a ∷ b ∷ c ∷ []) ((var 0 ⊗ var 0) ⊗ ((var 1 ⊗ var 1) ⊗ var 2)) (((var 0 ⊗ var 1) ⊗ (var 0 ⊗ var 1)) ⊗ var 2) tt

module _ (s e n : Vector) (d : ℤ) (round_e : dot e e ≡ dot s s) (in_s : dot n s ≤ℤ d) (in_e : dot n e ≤ℤ d) where
  module _ (p : Vector) (k : ℤ) (k_pos : pos 0 <ℤ k) (round_p : dot p p ≡ (k *ℤ k) *ℤ dot s s) (out_p : (d *ℤ k) <ℤ dot n p) (left_p : pos 0 <ℤ cross (e − s) (p − scaled k s)) where
    pub kept : Within s e n d
    kept x w on =
        cancel-≤ k (dot n x) (d *ℤ w) k_pos (≡-≤ (sym (scaled_dot k n x)) (≤-≡ end (identity (k ∷ w ∷ d ∷ []) ((var 0 ⊗ var 1) ⊗ var 2) (var 0 ⊗ (var 2 ⊗ var 1)) tt)))
      where
        m : ℤ
        m = k *ℤ w

        m_pos : pos 0 <ℤ m
        m_pos = pos_mul k w k_pos on.whole

        inner : (a : Vector) → dot n a ≤ℤ d → dot n (scaled m a) ≤ℤ (m *ℤ d)
        inner a h = ≡-≤ (scaled_dot m n a) (mul-≤ m (<-≤ m_pos) h)

        round : (a : Vector) (f g : ℤ) → f *ℤ g ≡ m → dot a a ≡ (g *ℤ g) *ℤ dot s s → dot (scaled f a) (scaled f a) ≡ dot (scaled m s) (scaled m s)
        round a f g is h =
            scaled_square f a ∙ ap (λ (z : ℤ). (f *ℤ f) *ℤ z) h ∙ squares f g (dot s s) ∙ ap (λ (z : ℤ). (z *ℤ z) *ℤ dot s s) is ∙ sym (scaled_square m s)

        end : dot n (scaled k x) ≤ℤ (m *ℤ d)
        end =
            chord (scaled m s) (scaled m e) (scaled w p) (scaled k x) n (m *ℤ d)
            (scaled_square m e ∙ ap (λ (z : ℤ). (m *ℤ m) *ℤ z) round_e ∙ sym (scaled_square m s))
            (round p w k (*ℤ_comm w k) round_p)
            (round x k w refl on.round)
            (inner s in_s)
            (inner e in_e)
            (≡-< (swapped k w d) (<-≡ (mul-< w on.whole out_p) (sym (scaled_dot w n p))))
            (<-≡ (pos_mul (m *ℤ w) _ (pos_mul m w m_pos on.whole) left_p) (sym (scaled_side s e p k w m refl)))
            (≡-≤ (scaled_side s e x w k m (*ℤ_comm k w)) (low_mul (m *ℤ k) _ (<-≤ (pos_mul m k m_pos k_pos)) on.side))

one_pos : pos 0 <ℤ pos 1
one_pos = record { lt = tt }

not_above : {a : ℤ} → a ≡ pos 0 → a ≤ℤ pos 0
not_above {a} e = omega (arith, ints)

by_one : (d : ℤ) {x : ℤ} → d <ℤ x → (d *ℤ pos 1) <ℤ x
by_one d {x} h = omega (arith, ints)

once : (s : Vector) → dot s s ≡ (pos 1 *ℤ pos 1) *ℤ dot s s
once s = identity (s.u ∷ s.v ∷ []) (dot_e v₀ v₀) ((num (pos 1) ⊗ num (pos 1)) ⊗ dot_e v₀ v₀) tt

-- the point opposite to s
abbrev opposite : Vector → Vector
opposite s = record { u = pos 0 -ℤ s.u; v = pos 0 -ℤ s.v }

abbrev opposite_e : VecE → VecE
opposite_e s = record { u = num (pos 0) ⊖ s.u; v = num (pos 0) ⊖ s.v }

opposite_round : (s : Vector) → dot (opposite s) (opposite s) ≡ (pos 1 *ℤ pos 1) *ℤ dot s s
opposite_round s = identity (s.u ∷ s.v ∷ []) (dot_e (opposite_e v₀) (opposite_e v₀)) ((num (pos 1) ⊗ num (pos 1)) ⊗ dot_e v₀ v₀) tt

opposite_side : (s e : Vector) → cross (e − s) (opposite s − scaled (pos 1) s) ≡ pos 2 *ℤ cross s e
opposite_side s e =
    identity (s.u ∷ s.v ∷ e.u ∷ e.v ∷ []) (cross_e (v₁ −E v₀) (opposite_e v₀ −E scaled_e (num (pos 1)) v₀)) (num (pos 2) ⊗ cross_e v₀ v₁) tt

opposite_ahead : (s n : Vector) (d : ℤ) → (dot n s +ℤ d) <ℤ pos 0 → (d *ℤ pos 1) <ℤ dot n (opposite s)
opposite_ahead s n d h = go (dot n s) d h (identity (s.u ∷ s.v ∷ n.u ∷ n.v ∷ []) (dot_e v₁ (opposite_e v₀)) (num (pos 0) ⊖ dot_e v₁ v₀) tt)
  where
    go : (c d : ℤ) {m : ℤ} → (c +ℤ d) <ℤ pos 0 → m ≡ pos 0 -ℤ c → (d *ℤ pos 1) <ℤ m
    go c d {m} h e = omega (arith, ints)

module _ (s e n : Vector) (d : ℤ) where
  out_start : d <ℤ dot n s → Beyond s e n d
  out_start h =
      (s, pos 1, record { whole = one_pos; round = once s; side = not_above (identity (s.u ∷ s.v ∷ e.u ∷ e.v ∷ []) (cross_e (v₁ −E v₀) (v₀ −E scaled_e (num (pos 1)) v₀)) (num (pos 0)) tt) }, by_one d h)

  out_opposite : (dot n s +ℤ d) <ℤ pos 0 → cross s e ≤ℤ pos 0 → Beyond s e n d
  out_opposite h g =
      (opposite s, pos 1, record { whole = one_pos; round = opposite_round s; side = ≡-≤ (opposite_side s e) (low_mul (pos 2) (cross s e) (record { le = tt }) g) }, opposite_ahead s n d h)

  module _ (round_e : dot e e ≡ dot s s) where
    out_end : d <ℤ dot n e → Beyond s e n d
    out_end h =
        (e, pos 1, record { whole = one_pos; round = round_e ∙ once s; side = not_above (identity (s.u ∷ s.v ∷ e.u ∷ e.v ∷ []) (cross_e (v₁ −E v₀) (v₁ −E scaled_e (num (pos 1)) v₀)) (num (pos 0)) tt) }, by_one d h)

    module _ (in_s : dot n s ≤ℤ d) (in_e : dot n e ≤ℤ d) where
      in_opposite : (dot n s +ℤ d) <ℤ pos 0 → pos 0 <ℤ cross s e → Within s e n d
      in_opposite h g =
          kept s e n d round_e in_s in_e (opposite s) (pos 1) one_pos (opposite_round s) (opposite_ahead s n d h) (<-≡ (pos_mul (pos 2) (cross s e) (record { lt = tt }) g) (sym (opposite_side s e)))

      module _ (near : pos 0 ≤ℤ (dot n s +ℤ d)) where
        -- the circle does not reach beyond the line
        in_clear : (dot s s *ℤ dot n n) ≤ℤ (d *ℤ d) → Within s e n d
        in_clear wide x w on =
            below_root (dot n x) (d *ℤ w) (go (lagrange n x) (square_nn (cross n x)) (ap (λ (z : ℤ). dot n n *ℤ z) on.round) (mul-≤ (w *ℤ w) (square_nn w) wide) (identity (w ∷ dot s s ∷ dot n n ∷ []) (var 2 ⊗ ((var 0 ⊗ var 0) ⊗ var 1)) ((var 0 ⊗ var 0) ⊗ (var 1 ⊗ var 2)) tt) (identity (w ∷ d ∷ []) ((var 0 ⊗ var 0) ⊗ (var 1 ⊗ var 1)) ((var 1 ⊗ var 0) ⊗ (var 1 ⊗ var 0)) tt))
            (nn_mul d w (half in_s near) (<-≤ on.whole))
          where
            go : {l c d r m x y : ℤ} → l ≡ c +ℤ d → pos 0 ≤ℤ c → l ≡ x → r ≤ℤ m → x ≡ r → m ≡ y → d ≤ℤ y
            go {l} {c} {d} {r} {m} {x} {y} e hc f h g k = omega (arith, ints)

            half : {c d : ℤ} → c ≤ℤ d → pos 0 ≤ℤ (c +ℤ d) → pos 0 ≤ℤ d
            half {c} {d} h k = omega (arith, ints)

        module _ (cuts : (d *ℤ d) <ℤ (dot s s *ℤ dot n n)) where
          two_weights : ℤ
          two_weights = pos 2 *ℤ beta (dot s s) (dot n n) (dot n s) d

          two_weights_pos : pos 0 <ℤ two_weights
          unfolding two_weights
          two_weights_pos = pos_mul (pos 2) (beta (dot s s) (dot n n) (dot n s) d) (record { lt = tt }) (weight_pos s n d in_s near cuts)

          axis_side : cross (e − s) (mirror s (axis s n d) − scaled (dot (axis s n d) (axis s n d)) s) ≡ two_weights *ℤ (cross s n *ℤ side s e n d)
          unfolding two_weights
          axis_side = mirror_side s n e (alpha (dot s s) (dot n n) (dot n s) d) (beta (dot s s) (dot n n) (dot n s) d)

          out_cut : (cross s n *ℤ side s e n d) ≤ℤ pos 0 → Beyond s e n d
          out_cut g =
              (mirror s (axis s n d), dot (axis s n d) (axis s n d), record { whole = axis_pos s n d in_s near cuts; round = mirror_round s (axis s n d); side = ≡-≤ axis_side (low_mul two_weights (cross s n *ℤ side s e n d) (<-≤ two_weights_pos) g) }, axis_ahead s n d in_s near cuts)

          in_cut : pos 0 <ℤ (cross s n *ℤ side s e n d) → Within s e n d
          in_cut g =
              kept s e n d round_e in_s in_e (mirror s (axis s n d)) (dot (axis s n d) (axis s n d)) (axis_pos s n d in_s near cuts) (mirror_round s (axis s n d)) (axis_ahead s n d in_s near cuts) (<-≡ (pos_mul two_weights (cross s n *ℤ side s e n d) two_weights_pos g) (sym axis_side))

pub arc_told : (s e n : Vector) (d : ℤ) → dot e e ≡ dot s s → MatchBool (stays s e n d) (Within s e n d) (Beyond s e n d)
arc_told s e n d round_e =
    let I : Type 0 = Within s e n d in
    let O : Type 0 = Beyond s e n d in
    by_less I O d (dot n s) false _ (λ h. out_start s e n d h) λ in_s.
    by_less I O d (dot n e) false _ (λ h. out_end s e n d round_e h) λ in_e.
    by_less I O (dot n s +ℤ d) (pos 0) _ _ (λ far. less I O (pos 0) (cross s e) (λ g. in_opposite s e n d round_e in_s in_e far g) (λ g. out_opposite s e n d far g)) λ near.
    by_less I O (d *ℤ d) (dot s s *ℤ dot n n) _ true (λ cuts. less I O (pos 0) (cross s n *ℤ side s e n d) (λ g. in_cut s e n d round_e in_s in_e near cuts g) (λ g. out_cut s e n d round_e in_s in_e near cuts g)) λ wide.
    in_clear s e n d round_e in_s in_e near wide
