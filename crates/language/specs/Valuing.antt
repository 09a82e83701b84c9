-- A line that a program holds, and what its sums are worth. Assumes nothing.
--     code_of v          the text up to the end of the code of the line of v
--     worth_of v s       what the sum s is worth where the parameters of v are
use Rattle.std.specs.Prelude.{ℕ, List, ℤ, Option, take}
use Rattle.sums.specs.Sums.{Sum}
use Rattle.rules.specs.Values.{value}
use Rattle.reading.specs.Reading.{held_text}
use Rattle.language.specs.declared.valuing.Valuing.{Valuing}

abbrev pub code_of : Valuing → List ℕ
code_of v = take v.held.end (held_text v.program.now)

abbrev pub worth_of : Valuing → Sum → Option ℤ
worth_of v s = value v.params.now.values s
