use Rattle.std.proofs.Common.{Bool, sym, subst}
use Rattle.geometry.specs.Areas.{Answered, InBox}
use Rattle.motions.specs.Model.{row_of}
use Rattle.geometry.proofs.Decided.{box_told}
use Rattle.geometry.proofs.limit_box.asking.LimitBoxArea.admits.Goals as goal

pub returns : goal.returns
returns c =
    let l = c.args.self.now.limits in
    let m = row_of c.args.motion.now in
    subst (λ (r : Bool). Answered r (InBox l) m) (sym c.keeps.ensures.value) (box_told m c.args.motion.now.closed l)
