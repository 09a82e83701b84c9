use Rattle.std.proofs.Common.{◌≡◌, ℕ, zero, suc, ◌<◌, ◌≤◌, List, length, ℤ, Some, Option, sym, ap, ◌∙◌, arith}
use Rattle.std.proofs.lemmas.Bool.{cond-false, le-ltb}
use Rattle.std.proofs.lemmas.Result.{err_from_is_err_and}
use Rattle.std.specs.Option.{option_map}
use Rattle.motions.specs.declared.refusal.Reason.TheVariants.{ValueRange}
use Rattle.forms.specs.Forms.{Named}
use Rattle.forms.specs.declared.said.Statement.{Statement}
use Rattle.rules.specs.Values.{value, valued, named}
use Rattle.forms.specs.Numbered.{numbered}
use Rattle.rules.specs.Targets.{Said}
use Rattle.rules.specs.State.{State, or_refuse}
use Rattle.rules.specs.Steps.{says_of, performs, runs_line, step}
use Rattle.rules.specs.Model.{state_of}
use Rattle.rules.proofs.run.Run.step.Goals as goal

-- a line that is there and may run does what it says
performed : (n : ℕ) (p : List Said) (s : State) (v : Statement ℤ Named) → s.due ≤ length p → 0 < n → Some v ≡ valued (value s.modal.params) (says_of (numbered p s.due)) → performs p v s ≡ step n p s
performed zero p s v there some e = absurd (omega arith)
performed (suc n) p s v there some e =
    ap (λ (o : Option (Statement ℤ Named)). or_refuse ValueRange s o (λ w. performs p w s)) e
    ∙ sym (cond-false _ _ (runs_line (suc n) p s) (le-ltb (length p) s.due there))

pub returns-in_err-done-clause-value : goal.returns-in_err-done-clause-value
returns-in_err-done-clause-value g c =
    let p = g.S.Source.lines c.args.source.now in
    let s = state_of c.args.self.now.state in
    let there : s.due ≤ length p = omega (arith, c.count-count.ensures.value) in
    let some : 0 < c.args.self.now.left = omega arith in
    let says = ap (option_map (named (g.S.Source.names c.args.source.now))) (sym c.in_ok-says.ensures.ok_part) ∙ c.says.ensures.value in
    let e = err_from_is_err_and c.from_residual-in_err-done.result c.from_residual-in_err-done.ensures.1 in
    rw (e.1, e.2) (c.in_err-done.ensures.value ∙ performed c.args.self.now.left p s _ there some says)
