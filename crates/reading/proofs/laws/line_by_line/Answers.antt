use Rattle.reading.proofs.Lawful.{line_by_line_lem}
use Rattle.reading.proofs.laws.line_by_line.Goals as goal

pub returns : goal.returns
returns c = record { law = line_by_line_lem }
