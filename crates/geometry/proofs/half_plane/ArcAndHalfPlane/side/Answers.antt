use Rattle.std.proofs.Common.{◌≡◌, ℤ, ◌+ℤ◌, ◌-ℤ◌, ◌*ℤ◌, arith, lit<}
use mir.Syntax.{w128}
use Rattle.std.proofs.lemmas.Int.{ints}
use Rattle.algebra.specs.declared.vector.Vector.{Vector}
use Rattle.algebra.specs.Plane.{dot}
use Rattle.algebra.specs.Sizes.{Bounded}
use Rattle.algebra.proofs.Bounded.{Num, bitted, mul, add, sub, mul_fits, add_fits, sub_fits}
use Rattle.geometry.specs.Sizes.{Posed}
use Rattle.geometry.proofs.HalfPlane.{limit, at_start, at_end, radius, slope, across}
use Rattle.geometry.proofs.half_plane.ArcAndHalfPlane.side.Goals as goal

-- as the code computes
abbrev times : ℤ → ℤ → ℤ
times a b = bitted w128 (a *ℤ b)

abbrev plus : ℤ → ℤ → ℤ
plus a b = bitted w128 (a +ℤ b)

abbrev minus : ℤ → ℤ → ℤ
minus a b = bitted w128 (a -ℤ b)

-- its numbers, in the order in which they come, from what the calls returned
module _ {s e n : Vector} {d r l c : ℤ} (h : Posed s e n d) (is_r : r ≡ dot s s) (is_l : l ≡ dot n n) (is_c : c ≡ dot n s) where
  wide_slope : Num (bitted w128 l) (dot n n) 72000000000000
  wide_slope = let k = slope h is_l in record { is = k.is; size = wider k.size }
    where
      wider : {z : ℤ} → Bounded 20000 z → Bounded 72000000000000 z
      wider {z} b = omega (arith, ints)

  gauge : Num (minus (times (bitted w128 r) (bitted w128 l)) (times (bitted w128 d) (bitted w128 c))) (dot s s *ℤ dot n n -ℤ d *ℤ dot n s) 3840000000000000000
  gauge = sub w128 (mul w128 (radius h is_r) (slope h is_l) (lit< tt)) (mul w128 (limit h) (at_start h is_c) (lit< tt)) (lit< tt)

  gap : Num (minus (bitted w128 d) (bitted w128 c)) (d -ℤ dot n s) 3200000000
  gap = sub w128 (limit h) (at_start h is_c) (lit< tt)

  -- gauge + gap·x
  weight : {z x : ℤ} → Num z x 72000000000000 → Num (plus (minus (times (bitted w128 r) (bitted w128 l)) (times (bitted w128 d) (bitted w128 c))) (times (minus (bitted w128 d) (bitted w128 c)) z)) ((dot s s *ℤ dot n n -ℤ d *ℤ dot n s) +ℤ (d -ℤ dot n s) *ℤ x) 230403840000000000000000
  weight k = add w128 gauge (mul w128 gap k (lit< tt)) (lit< tt)

  -- the first and the second product of the sum, with what the calls for their other factors returned
  module _ {x y : ℤ} (is_x : x ≡ dot e s) (is_y : y ≡ dot n e) where
    ahead : Num (minus (bitted w128 x) (bitted w128 r)) (dot e s -ℤ dot s s) 144000000000000
    ahead = sub w128 (across h is_x) (radius h is_r) (lit< tt)

    climb : Num (minus (bitted w128 y) (bitted w128 c)) (dot n e -ℤ dot n s) 2400000000
    climb = sub w128 (at_end h is_y) (at_start h is_c) (lit< tt)

pub overflow_sub-ahead : goal.overflow_sub-ahead
overflow_sub-ahead k = sub_fits w128 (across k.args.self.posed k.dot.ensures.value) (radius k.args.self.posed k.dot-radius.ensures.value) (lit< tt)

pub overflow_sub-climb : goal.overflow_sub-climb
overflow_sub-climb k = sub_fits w128 (at_end k.args.self.posed k.dot-2.ensures.value) (at_start k.args.self.posed k.dot-at_start.ensures.value) (lit< tt)

pub overflow_mul-gauge : goal.overflow_mul-gauge
overflow_mul-gauge k = mul_fits w128 (radius k.args.self.posed k.dot-radius.ensures.value) (slope k.args.self.posed k.dot-slope.ensures.value) (lit< tt)

pub overflow_mul-gauge-2 : goal.overflow_mul-gauge-2
overflow_mul-gauge-2 k = mul_fits w128 (limit k.args.self.posed) (at_start k.args.self.posed k.dot-at_start.ensures.value) (lit< tt)

pub overflow_sub-gauge : goal.overflow_sub-gauge
overflow_sub-gauge k =
    sub_fits w128 (mul w128 (radius k.args.self.posed k.dot-radius.ensures.value) (slope k.args.self.posed k.dot-slope.ensures.value) (lit< tt)) (mul w128 (limit k.args.self.posed) (at_start k.args.self.posed k.dot-at_start.ensures.value) (lit< tt)) (lit< tt)

pub overflow_sub-gap : goal.overflow_sub-gap
overflow_sub-gap k = sub_fits w128 (limit k.args.self.posed) (at_start k.args.self.posed k.dot-at_start.ensures.value) (lit< tt)

pub overflow_mul-result : goal.overflow_mul-result
overflow_mul-result k =
    let gap_is = gap k.args.self.posed k.dot-radius.ensures.value k.dot-slope.ensures.value k.dot-at_start.ensures.value in
    let wide = wide_slope k.args.self.posed k.dot-radius.ensures.value k.dot-slope.ensures.value k.dot-at_start.ensures.value in
    mul_fits w128 gap_is wide (lit< tt)

pub overflow_add-result : goal.overflow_add-result
overflow_add-result k =
    let gap_is = gap k.args.self.posed k.dot-radius.ensures.value k.dot-slope.ensures.value k.dot-at_start.ensures.value in
    let wide = wide_slope k.args.self.posed k.dot-radius.ensures.value k.dot-slope.ensures.value k.dot-at_start.ensures.value in
    add_fits w128 (gauge k.args.self.posed k.dot-radius.ensures.value k.dot-slope.ensures.value k.dot-at_start.ensures.value) (mul w128 gap_is wide (lit< tt)) (lit< tt)

pub overflow_mul-result-2 : goal.overflow_mul-result-2
overflow_mul-result-2 k =
    let wide = wide_slope k.args.self.posed k.dot-radius.ensures.value k.dot-slope.ensures.value k.dot-at_start.ensures.value in
    let x = ahead k.args.self.posed k.dot-radius.ensures.value k.dot-slope.ensures.value k.dot-at_start.ensures.value k.dot.ensures.value k.dot-2.ensures.value in
    mul_fits w128 (weight k.args.self.posed k.dot-radius.ensures.value k.dot-slope.ensures.value k.dot-at_start.ensures.value wide) x (lit< tt)

pub overflow_mul-result-3 : goal.overflow_mul-result-3
overflow_mul-result-3 k =
    let gap_is = gap k.args.self.posed k.dot-radius.ensures.value k.dot-slope.ensures.value k.dot-at_start.ensures.value in
    let r = radius k.args.self.posed k.dot-radius.ensures.value in
    mul_fits w128 gap_is r (lit< tt)

pub overflow_add-result-2 : goal.overflow_add-result-2
overflow_add-result-2 k =
    let gap_is = gap k.args.self.posed k.dot-radius.ensures.value k.dot-slope.ensures.value k.dot-at_start.ensures.value in
    let r = radius k.args.self.posed k.dot-radius.ensures.value in
    add_fits w128 (gauge k.args.self.posed k.dot-radius.ensures.value k.dot-slope.ensures.value k.dot-at_start.ensures.value) (mul w128 gap_is r (lit< tt)) (lit< tt)

pub overflow_mul-result-4 : goal.overflow_mul-result-4
overflow_mul-result-4 k =
    let r = radius k.args.self.posed k.dot-radius.ensures.value in
    let y = climb k.args.self.posed k.dot-radius.ensures.value k.dot-slope.ensures.value k.dot-at_start.ensures.value k.dot.ensures.value k.dot-2.ensures.value in
    mul_fits w128 (weight k.args.self.posed k.dot-radius.ensures.value k.dot-slope.ensures.value k.dot-at_start.ensures.value r) y (lit< tt)

pub overflow_add-result-3 : goal.overflow_add-result-3
overflow_add-result-3 k =
    let wide = wide_slope k.args.self.posed k.dot-radius.ensures.value k.dot-slope.ensures.value k.dot-at_start.ensures.value in
    let r = radius k.args.self.posed k.dot-radius.ensures.value in
    let x = ahead k.args.self.posed k.dot-radius.ensures.value k.dot-slope.ensures.value k.dot-at_start.ensures.value k.dot.ensures.value k.dot-2.ensures.value in
    let y = climb k.args.self.posed k.dot-radius.ensures.value k.dot-slope.ensures.value k.dot-at_start.ensures.value k.dot.ensures.value k.dot-2.ensures.value in
    add_fits w128 (mul w128 (weight k.args.self.posed k.dot-radius.ensures.value k.dot-slope.ensures.value k.dot-at_start.ensures.value wide) x (lit< tt)) (mul w128 (weight k.args.self.posed k.dot-radius.ensures.value k.dot-slope.ensures.value k.dot-at_start.ensures.value r) y (lit< tt)) (lit< tt)

pub returns : goal.returns
returns k =
    let wide = wide_slope k.args.self.posed k.dot-radius.ensures.value k.dot-slope.ensures.value k.dot-at_start.ensures.value in
    let r = radius k.args.self.posed k.dot-radius.ensures.value in
    let x = ahead k.args.self.posed k.dot-radius.ensures.value k.dot-slope.ensures.value k.dot-at_start.ensures.value k.dot.ensures.value k.dot-2.ensures.value in
    let y = climb k.args.self.posed k.dot-radius.ensures.value k.dot-slope.ensures.value k.dot-at_start.ensures.value k.dot.ensures.value k.dot-2.ensures.value in
    record { value = (add w128 (mul w128 (weight k.args.self.posed k.dot-radius.ensures.value k.dot-slope.ensures.value k.dot-at_start.ensures.value wide) x (lit< tt)) (mul w128 (weight k.args.self.posed k.dot-radius.ensures.value k.dot-slope.ensures.value k.dot-at_start.ensures.value r) y (lit< tt)) (lit< tt)).is }
