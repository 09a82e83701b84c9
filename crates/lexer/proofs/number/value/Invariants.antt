use Rattle.std.proofs.Common.{◌≡◌, ◌+◌, ◌*◌, ◌^◌, ◌≤◌, min, take}
use Rattle.lexer.specs.Numbers.{value_of}
use Rattle.lexer.proofs.number.value.Given as goal

abbrev pub invariant-loop-b : goal.invariant-loop-b
invariant-loop-b l = (l.v ≡ min (value_of (take l.b-index l.s)) 4294967295) × (l.v + 23 ≤ 23 * 10 ^ l.b-index)
