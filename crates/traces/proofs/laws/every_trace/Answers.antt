use Rattle.traces.proofs.Lawful.{lawful}
use Rattle.traces.proofs.laws.every_trace.Goals as goal

pub returns : goal.returns
returns c = record { law = lawful }
