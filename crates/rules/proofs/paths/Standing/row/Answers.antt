use Rattle.rules.specs.Model.{row_at}
use Rattle.rules.proofs.Judging.{row_reached}
use Rattle.rules.proofs.paths.Standing.row.Goals as goal

pub returns : goal.returns
returns c =
    let m = row_at c.args.self.now c.args.frame.now c.args.words.now in
    record { value = row_reached m c.in_ok-end.end c.in_ok-kind.kind c.in_ok-end.ensures.value c.in_ok-kind.ensures.value }
