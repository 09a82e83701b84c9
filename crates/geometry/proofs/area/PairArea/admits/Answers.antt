use Rattle.std.proofs.Common.{Bool, true, sym, subst}
use Rattle.geometry.specs.Areas.{Answered}
use Rattle.motions.specs.Model.{row_of}
use Rattle.geometry.specs.Points.{Point}
use Rattle.geometry.proofs.Decided.{both, first_fails}
use Rattle.geometry.proofs.area.PairArea.admits.Goals as goal

pub returns-then-admits : goal.returns-then-admits
returns-then-admits g c =
    let m = row_of c.args.motion.now in
    let C : Point → Type 0 = λ p. g.A.Area.contains c.args.self.now.first p in
    let D : Point → Type 0 = λ p. g.B.Area.contains c.args.self.now.second p in
    both m true c.admits-then-admits.result C D (subst (λ (r : Bool). Answered r C m) c.if-admits.true c.admits.ensures) c.admits-then-admits.ensures

pub returns-else-admits : goal.returns-else-admits
returns-else-admits g c =
    let m = row_of c.args.motion.now in
    let C : Point → Type 0 = λ p. g.A.Area.contains c.args.self.now.first p in
    let D : Point → Type 0 = λ p. g.B.Area.contains c.args.self.now.second p in
    subst (λ (r : Bool). Answered r (λ p. C p × D p) m) (sym c.if-admits.false) (first_fails m C D (subst (λ (r : Bool). Answered r C m) c.if-admits.false c.admits.ensures))
