use Rattle.std.proofs.Common.{Bool, sym, subst}
use Rattle.geometry.specs.Areas.{Answered, InEdge}
use Rattle.motions.specs.Model.{row_of}
use Rattle.geometry.proofs.Decided.{keeps_told}
use Rattle.geometry.proofs.edge.asking.EdgeArea.admits.Goals as goal

pub returns : goal.returns
returns c =
    let n = c.args.self.now.normal in
    let d = c.args.self.now.limit in
    let m = row_of c.args.motion.now in
    subst (λ (r : Bool). Answered r (λ p. InEdge n d p) m) (sym c.keeps.ensures.value) (keeps_told n d m c.args.motion.now.closed)
