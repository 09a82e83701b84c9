use Rattle.std.proofs.Common.{arith}
use Rattle.std.proofs.lemmas.Grind.{common_steps}
use Rattle.lexer.proofs.Lengths.{num_digits, number_some, number_high}
use Rattle.lexer.proofs.cursor.first.Goals as goal

pub returns-in-Some-Word : goal.returns-in-Some-Word
returns-in-Some-Word c = grind (arith, common_steps, num_digits, number_high)

pub returns-in-Some-Number : goal.returns-in-Some-Number
returns-in-Some-Number c = grind (arith, common_steps, num_digits, number_high, number_some)
