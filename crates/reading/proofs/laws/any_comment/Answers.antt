use Rattle.reading.proofs.Lawful.{any_comment_lem}
use Rattle.reading.proofs.laws.any_comment.Goals as goal

pub returns : goal.returns
returns c = record { law = any_comment_lem }
