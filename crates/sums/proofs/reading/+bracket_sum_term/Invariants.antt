use Rattle.std.proofs.Common.{◌+◌, ◌*◌}
use Rattle.lexer.specs.Model.{ahead, left, Further}
use Rattle.sums.proofs.Walks.{Remains}
use Rattle.sums.proofs.reading.+bracket_sum_term.Given as goal

abbrev pub decreases-bracket : goal.decreases-bracket
decreases-bracket l = 3 * left l.c + 4

abbrev pub decreases-sum : goal.decreases-sum
decreases-sum l = 3 * left l.c + 3

abbrev pub decreases-term : goal.decreases-term
decreases-term l = 3 * left l.c + 2

abbrev pub invariant-sum-loop-m : goal.invariant-sum-loop-m
invariant-sum-loop-m l = Further l.c l.after × Remains l.params.values l.depth (ahead l.c) (ahead l.after) l.acc

abbrev pub decreases-sum-loop-m : goal.decreases-sum-loop-m
decreases-sum-loop-m l = left l.after
