-- The same words for vectors of expressions, and identities of vectors. Assumes nothing.
--     VecE, dot_e, cross_e, −E, scaled_e  a vector of expressions, and the operations of specs.Plane on it
--     mix a s b n                         a·s + b·n
--     mirror s f                          s reflected at the line through the origin along f, times f·f
use Rattle.std.proofs.Common.{◌≡◌, [], ◌∷◌, ℤ, pos, ◌+ℤ◌, ◌-ℤ◌, ◌*ℤ◌, ◌≤ℤ◌, ◌<ℤ◌, sym}
use Rattle.algebra.specs.declared.vector.Vector.{Vector}
use Rattle.algebra.specs.Plane.{dot, cross, scaled}
use Rattle.algebra.proofs.Polynomials.{Expr, num, var, ◌⊕◌, ◌⊖◌, ◌⊗◌, identity}
use Rattle.algebra.proofs.Products.{<-≡, add_nn, add_pos, pos_left, square_nn}

pub record VecE : Type 0 where
  pub u : Expr
  pub v : Expr

abbrev pub dot_e : VecE → VecE → Expr
dot_e a b = a.u ⊗ b.u ⊕ a.v ⊗ b.v

abbrev pub cross_e : VecE → VecE → Expr
cross_e a b = a.u ⊗ b.v ⊖ a.v ⊗ b.u

abbrev pub ◌−E◌ : VecE → VecE → VecE
a −E b = record { u = a.u ⊖ b.u; v = a.v ⊖ b.v }

infixl 60 ◌−E◌
abbrev pub scaled_e : Expr → VecE → VecE
scaled_e k a = record { u = k ⊗ a.u; v = k ⊗ a.v }

abbrev pub mix : ℤ → Vector → ℤ → Vector → Vector
mix a s b n = record { u = a *ℤ s.u +ℤ b *ℤ n.u; v = a *ℤ s.v +ℤ b *ℤ n.v }

abbrev pub mix_e : Expr → VecE → Expr → VecE → VecE
mix_e a s b n = record { u = a ⊗ s.u ⊕ b ⊗ n.u; v = a ⊗ s.v ⊕ b ⊗ n.v }

abbrev pub mirror : Vector → Vector → Vector
mirror s f = mix (pos 2 *ℤ dot s f) f (pos 0 -ℤ dot f f) s

abbrev pub mirror_e : VecE → VecE → VecE
mirror_e s f = mix_e (num (pos 2) ⊗ dot_e s f) f (num (pos 0) ⊖ dot_e f f) s

-- the first five vectors of a list of variables
abbrev pub v₀ : VecE
v₀ = record { u = var 0; v = var 1 }

abbrev pub v₁ : VecE
v₁ = record { u = var 2; v = var 3 }

abbrev pub v₂ : VecE
v₂ = record { u = var 4; v = var 5 }

abbrev pub v₃ : VecE
v₃ = record { u = var 6; v = var 7 }

abbrev pub v₄ : VecE
v₄ = record { u = var 8; v = var 9 }

pub scaled_square : (k : ℤ) (a : Vector) → dot (scaled k a) (scaled k a) ≡ (k *ℤ k) *ℤ dot a a
scaled_square k a =
    identity (a.u ∷ a.v ∷ k ∷ []) (dot_e (scaled_e (var 2) v₀) (scaled_e (var 2) v₀)) ((var 2 ⊗ var 2) ⊗ dot_e v₀ v₀) tt

pub scaled_dot : (k : ℤ) (n a : Vector) → dot n (scaled k a) ≡ k *ℤ dot n a
scaled_dot k n a =
    identity (n.u ∷ n.v ∷ a.u ∷ a.v ∷ k ∷ []) (dot_e v₀ (scaled_e (var 4) v₁)) (var 4 ⊗ dot_e v₀ v₁) tt

-- Lagrange's identity
pub lagrange : (a b : Vector) → dot a a *ℤ dot b b ≡ cross a b *ℤ cross a b +ℤ dot a b *ℤ dot a b
lagrange a b =
    identity (a.u ∷ a.v ∷ b.u ∷ b.v ∷ []) (dot_e v₀ v₀ ⊗ dot_e v₁ v₁) (cross_e v₀ v₁ ⊗ cross_e v₀ v₁ ⊕ dot_e v₀ v₁ ⊗ dot_e v₀ v₁) tt

pub dot_nn : (a : Vector) → pos 0 ≤ℤ dot a a
dot_nn a = add_nn (square_nn a.u) (square_nn a.v)

-- vectors that span something are not 0
pub dot_pos : (a b : Vector) → pos 0 <ℤ (cross a b *ℤ cross a b) → pos 0 <ℤ dot a a
dot_pos a b h =
    pos_left (dot a a) (dot b b) (<-≡ (add_pos h (square_nn (dot a b))) (sym (lagrange a b))) (dot_nn a)

pub same_vector : {a b c d : ℤ} → a ≡ c → b ≡ d → ◌≡◌ {A = Vector} (record { u = a; v = b }) (record { u = c; v = d })
same_vector p q i = record { u = p i; v = q i }
