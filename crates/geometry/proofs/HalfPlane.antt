-- The numbers that decide about an arc and a half plane: what is computed is what is meant, and how large it is. Assumes nothing.
use Rattle.std.proofs.Common.{◌≡◌, ℤ, lit<}
use mir.Syntax.{w128}
use Rattle.algebra.specs.declared.vector.Vector.{Vector}
use Rattle.algebra.specs.Plane.{dot}
use Rattle.algebra.proofs.Bounded.{Num, bitted, given}
use Rattle.algebra.proofs.Computed.{dot_num}
use Rattle.geometry.specs.Sizes.{Posed}

module _ {s e n : Vector} {d : ℤ} (h : Posed s e n d) where
  pub limit : Num (bitted w128 d) d 2000000000
  limit = given w128 2000000000 d h.limit (lit< tt)

  pub at_start : {r : ℤ} → r ≡ dot n s → Num (bitted w128 r) (dot n s) 1200000000
  at_start is = dot_num 100 6000000 n s h.normal h.start is (lit< tt)

  pub at_end : {r : ℤ} → r ≡ dot n e → Num (bitted w128 r) (dot n e) 1200000000
  at_end is = dot_num 100 6000000 n e h.normal h.end is (lit< tt)

  pub radius : {r : ℤ} → r ≡ dot s s → Num (bitted w128 r) (dot s s) 72000000000000
  radius is = dot_num 6000000 6000000 s s h.start h.start is (lit< tt)

  pub slope : {r : ℤ} → r ≡ dot n n → Num (bitted w128 r) (dot n n) 20000
  slope is = dot_num 100 100 n n h.normal h.normal is (lit< tt)

  pub across : {r : ℤ} → r ≡ dot e s → Num (bitted w128 r) (dot e s) 72000000000000
  across is = dot_num 6000000 6000000 e s h.end h.start is (lit< tt)
