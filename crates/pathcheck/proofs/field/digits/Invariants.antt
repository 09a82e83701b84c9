use Rattle.std.proofs.Common.{◌≡◌, ◌^◌, ◌<◌, drop}
use Rattle.pathcheck.proofs.DigitRuns.{spelled}
use Rattle.pathcheck.proofs.field.digits.Given as goal

abbrev pub invariant-loop-b : goal.invariant-loop-b
invariant-loop-b l = record { spelled : spelled l.value (drop l.b-index l.run) ≡ spelled 0 l.run; below : l.value < 10 ^ l.b-index }
