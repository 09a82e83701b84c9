use Rattle.reading.proofs.Lawful.{either_case_lem}
use Rattle.reading.proofs.laws.either_case.Goals as goal

pub returns : goal.returns
returns c = record { law = either_case_lem }
