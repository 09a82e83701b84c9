use Rattle.std.proofs.Common.{arith}
use Rattle.std.proofs.lemmas.Int.{ints}
use Rattle.rules.proofs.ends.goal.Goals as goal

pub returns-in-Some-Absolute : goal.returns-in-Some-Absolute
returns-in-Some-Absolute c =
    let h = c.in-Some-Absolute in
    let v = c.from-in-Some-Absolute.ensures in
    let z = c.from-in-Some-Absolute-2.ensures in
    let s = c.from-in-Some-Absolute-3.ensures in
    rw (h.is-0, h.is-1) (record { value = omega (arith, ints, v.0, v.1, z, s.0, s.1) })
