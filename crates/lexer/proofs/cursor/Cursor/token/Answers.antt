use Rattle.std.proofs.Common.{sym, ap, ◌∙◌, length, subst}
use Rattle.lexer.specs.Model.{Opened}
use Rattle.lexer.proofs.Cuts.{cut, cut_end}
use Rattle.lexer.proofs.cursor.Cursor.token.Goals as goal

pub returns-in-Some : goal.returns-in-Some
returns-in-Some c =
    let start = c.past_blanks-start in
    record { cut = cut c.args.self start.result start.ensures.at start.ensures.line c.in-Some.token c.in-Some.length (subst (λ u. Opened start.result.at u c.in-Some.token c.in-Some.length) c.rest.ensures.value c.in-Some.ensures.begins) }

pub returns-in-None : goal.returns-in-None
returns-in-None c =
    let start = c.past_blanks-start in
    record { cut = cut_end c.args.self start.result start.ensures.at start.ensures.line (ap length (sym c.rest.ensures.value) ∙ c.in-None.ensures.begins) }
