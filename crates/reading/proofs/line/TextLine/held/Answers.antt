use Rattle.std.proofs.Common.{sym, ap, ◌∙◌, rules}
use Rattle.std.specs.Option.{option_map}
use Rattle.reading.specs.Reading.{said}
use Rattle.reading.proofs.Telling.{code_high, form_is}
use Rattle.reading.proofs.line.TextLine.held.Goals as goal

pub slice_bounds-line_at-end : goal.slice_bounds-line_at-end
slice_bounds-line_at-end c =
    let l = c.args.self in
    let high = code_high l.text.now l.from l.end c.code_end-code.result l.low l.high c.code_end-code.ensures.value in
    search rules

pub returns-in_err-line : goal.returns-in_err-line
returns-in_err-line c =
    let l = c.args.self in
    record { value = sym (form_is l.text.now l.from l.end c.code_end-code.result l.low l.high c.code_end-code.ensures.value) ∙ c.in_err-line.ensures.value ∙ ap (option_map (said l.text.now)) (sym c.from_residual.ensures) }

pub returns : goal.returns
returns c =
    let l = c.args.self in
    record { value = sym (form_is l.text.now l.from l.end c.code_end-code.result l.low l.high c.code_end-code.ensures.value) ∙ c.in_ok-line.ensures.value }
