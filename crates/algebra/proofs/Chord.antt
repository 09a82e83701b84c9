-- Two points of a circle that lie beyond a line, where the ends of a chord do not, lie on one side of the chord. Assumes nothing.
-- In words: the segment between two points on different sides of the chord meets the chord's line inside the disc, so on the chord
-- itself, where n·x ≤ d; so not both are beyond. `crossing` is that meeting, `powers` that it falls between the ends.
use Rattle.std.proofs.Common.{◌≡◌, [], ◌∷◌, ℤ, pos, ◌+ℤ◌, ◌-ℤ◌, ◌*ℤ◌, ◌≤ℤ◌, ◌<ℤ◌, arith}
use Rattle.std.proofs.lemmas.Int.{ints, by_lt_z}
use Rattle.algebra.specs.declared.vector.Vector.{Vector}
use Rattle.algebra.specs.Plane.{dot, cross, ◌−◌}
use Rattle.algebra.proofs.Polynomials.{Expr, num, var, ◌⊕◌, ◌⊖◌, ◌⊗◌, identity}
use Rattle.algebra.proofs.Products.{nn_mul, pos_mul, between}
use Rattle.algebra.proofs.Vectors.{VecE, dot_e, cross_e, ◌−E◌, v₀, v₁, v₂, v₃, v₄, dot_nn, dot_pos}

-- twice the area of the triangle s e p: above 0 where p lies left of the way from s to e
abbrev area : Vector → Vector → Vector → ℤ
area s e p = cross (e − s) (p − s)

abbrev area_e : VecE → VecE → VecE → Expr
area_e s e p = cross_e (e −E s) (p −E s)

crossing : (s e p q n : Vector) (d : ℤ) → area s e p *ℤ (dot n q -ℤ d) -ℤ area s e q *ℤ (dot n p -ℤ d) +ℤ ((area s e p -ℤ area s e q) -ℤ area s q p) *ℤ (d -ℤ dot n s) +ℤ area s q p *ℤ (d -ℤ dot n e) ≡ pos 0
crossing s e p q n d =
    identity (s.u ∷ s.v ∷ e.u ∷ e.v ∷ p.u ∷ p.v ∷ q.u ∷ q.v ∷ n.u ∷ n.v ∷ d ∷ [])
    (area_e v₀ v₁ v₂ ⊗ (dot_e v₄ v₃ ⊖ var 10) ⊖ area_e v₀ v₁ v₃ ⊗ (dot_e v₄ v₂ ⊖ var 10) ⊕ ((area_e v₀ v₁ v₂ ⊖ area_e v₀ v₁ v₃) ⊖ area_e v₀ v₃ v₂) ⊗ (var 10 ⊖ dot_e v₄ v₀) ⊕ area_e v₀ v₃ v₂ ⊗ (var 10 ⊖ dot_e v₄ v₁))
    (num (pos 0)) tt

powers : (s e p q : Vector) → area s q p *ℤ (area s q p -ℤ (area s e p -ℤ area s e q)) *ℤ dot (e − s) (e − s) ≡ area s e p *ℤ area s e q *ℤ dot (p − q) (p − q) +ℤ (area s e p -ℤ area s e q) *ℤ (area s e p *ℤ (dot q q -ℤ dot s s) -ℤ area s e q *ℤ (dot p p -ℤ dot s s) -ℤ area s q p *ℤ (dot e e -ℤ dot s s))
powers s e p q =
    identity (s.u ∷ s.v ∷ e.u ∷ e.v ∷ p.u ∷ p.v ∷ q.u ∷ q.v ∷ [])
    (area_e v₀ v₃ v₂ ⊗ (area_e v₀ v₃ v₂ ⊖ (area_e v₀ v₁ v₂ ⊖ area_e v₀ v₁ v₃)) ⊗ dot_e (v₁ −E v₀) (v₁ −E v₀))
    (area_e v₀ v₁ v₂ ⊗ area_e v₀ v₁ v₃ ⊗ dot_e (v₂ −E v₃) (v₂ −E v₃) ⊕ (area_e v₀ v₁ v₂ ⊖ area_e v₀ v₁ v₃) ⊗ (area_e v₀ v₁ v₂ ⊗ (dot_e v₃ v₃ ⊖ dot_e v₀ v₀) ⊖ area_e v₀ v₁ v₃ ⊗ (dot_e v₂ v₂ ⊖ dot_e v₀ v₀) ⊖ area_e v₀ v₃ v₂ ⊗ (dot_e v₁ v₁ ⊖ dot_e v₀ v₀)))
    tt

vanish : (w a b c : ℤ) {x y z : ℤ} → x ≡ pos 0 → y ≡ pos 0 → z ≡ pos 0 → w *ℤ (a *ℤ x -ℤ b *ℤ y -ℤ c *ℤ z) ≡ pos 0
vanish w a b c ex ey ez =
    rw (ex, ey, ez) (identity (w ∷ a ∷ b ∷ c ∷ []) (var 0 ⊗ (var 1 ⊗ num (pos 0) ⊖ var 2 ⊗ num (pos 0) ⊖ var 3 ⊗ num (pos 0))) (num (pos 0)) tt)

gone : {x y : ℤ} → x ≡ y → x -ℤ y ≡ pos 0
gone {x} {y} e = omega (arith, ints)

-- e, p and q are as far from the origin as s; p is beyond and left of the chord, q is not left of it
module _ (s e p q n : Vector) (d : ℤ) (on_e : dot e e ≡ dot s s) (on_p : dot p p ≡ dot s s) (on_q : dot q q ≡ dot s s) (in_s : dot n s ≤ℤ d) (in_e : dot n e ≤ℤ d) (out_p : d <ℤ dot n p) (left_p : pos 0 <ℤ area s e p) (right_q : area s e q ≤ℤ pos 0) where
  wide : pos 0 <ℤ (area s e p -ℤ area s e q)
  wide = go left_p right_q
    where
      go : {x y : ℤ} → pos 0 <ℤ x → y ≤ℤ pos 0 → pos 0 <ℤ (x -ℤ y)
      go {x} {y} h k = omega (arith, ints)

  inner : (area s q p *ℤ (area s q p -ℤ (area s e p -ℤ area s e q)) *ℤ dot (e − s) (e − s)) ≤ℤ pos 0
  inner =
      go (area s e p) (area s e q) (dot (p − q) (p − q)) (powers s e p q) left_p right_q (dot_nn (p − q)) (vanish (area s e p -ℤ area s e q) (area s e p) (area s e q) (area s q p) (gone on_q) (gone on_p) (gone on_e))
    where
      end : (w : ℤ) {l z k : ℤ} → l ≡ w +ℤ z → z ≡ pos 0 → pos 0 ≤ℤ k → k ≡ pos 0 -ℤ w → l ≤ℤ pos 0
      end w {l} {z} {k} e hz hk t = omega (arith, ints)

      go : (x y m : ℤ) {l z : ℤ} → l ≡ x *ℤ y *ℤ m +ℤ z → pos 0 <ℤ x → y ≤ℤ pos 0 → pos 0 ≤ℤ m → z ≡ pos 0 → l ≤ℤ pos 0
      go x y m e hx hy hm hz =
          end (x *ℤ y *ℤ m) e hz (nn_mul (x *ℤ (pos 0 -ℤ y)) m (nn_mul x (pos 0 -ℤ y) (omega (arith, ints)) (omega (arith, ints))) hm)
          (identity (x ∷ y ∷ m ∷ []) (var 0 ⊗ (num (pos 0) ⊖ var 1) ⊗ var 2) (num (pos 0) ⊖ var 0 ⊗ var 1 ⊗ var 2) tt)

  inside : (pos 0 ≤ℤ area s q p) × (area s q p ≤ℤ (area s e p -ℤ area s e q))
  inside =
      between (area s q p) (area s e p -ℤ area s e q) (dot (e − s) (e − s)) wide (dot_pos (e − s) (p − s) (pos_mul (area s e p) (area s e p) left_p left_p)) inner

  pub chord : dot n q ≤ℤ d
  chord = by_lt_z d (dot n q) (λ lt. absurd (go (area s e p) (area s e q) (area s q p) d (crossing s e p q n d) left_p right_q lt out_p in_s in_e inside.0 inside.1)) (λ le. le)
    where
      end : (x : ℤ) {w y z u : ℤ} → w -ℤ x +ℤ z +ℤ u ≡ pos 0 → pos 0 <ℤ w → pos 0 ≤ℤ y → pos 0 ≤ℤ z → pos 0 ≤ℤ u → y ≡ pos 0 -ℤ x → ⊥
      end x {w} {y} {z} {u} e a b c d f = omega (arith, ints)

      go : (cp cq t d : ℤ) {ns ne np nq : ℤ} → cp *ℤ (nq -ℤ d) -ℤ cq *ℤ (np -ℤ d) +ℤ ((cp -ℤ cq) -ℤ t) *ℤ (d -ℤ ns) +ℤ t *ℤ (d -ℤ ne) ≡ pos 0 → pos 0 <ℤ cp → cq ≤ℤ pos 0 → d <ℤ nq → d <ℤ np → ns ≤ℤ d → ne ≤ℤ d → pos 0 ≤ℤ t → t ≤ℤ (cp -ℤ cq) → ⊥
      go cp cq t d {ns} {ne} {np} {nq} e hp hq lq lp ls le t0 t1 =
          end (cq *ℤ (np -ℤ d)) e
          (pos_mul cp (nq -ℤ d) hp (omega (arith, ints)))
          (nn_mul (pos 0 -ℤ cq) (np -ℤ d) (omega (arith, ints)) (omega (arith, ints)))
          (nn_mul ((cp -ℤ cq) -ℤ t) (d -ℤ ns) (omega (arith, ints)) (omega (arith, ints)))
          (nn_mul t (d -ℤ ne) t0 (omega (arith, ints)))
          (identity (cq ∷ np ∷ d ∷ []) ((num (pos 0) ⊖ var 0) ⊗ (var 1 ⊖ var 2)) (num (pos 0) ⊖ var 0 ⊗ (var 1 ⊖ var 2)) tt)
