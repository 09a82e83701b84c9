use Rattle.std.proofs.Common.{rules}
use Rattle.sums.specs.Sums.{total}
use Rattle.sums.proofs.reading.sum_worth.Goals as goal

pub returns-in-None : goal.returns-in-None
unfolding total
returns-in-None c = search rules
