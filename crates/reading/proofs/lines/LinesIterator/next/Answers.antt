use Rattle.reading.proofs.Lined.{one_line, no_lines}
use Rattle.reading.proofs.lines.LinesIterator.next.Goals as goal

pub returns-then-from-text-clause-steps : goal.returns-then-from-text-clause-steps
returns-then-from-text-clause-steps c =
    let it = c.args.self.now in
    let none = no_lines it.text.now it.text.now it.from c.if-from-text.true in
    (none, none)

pub returns-clause-steps : goal.returns-clause-steps
returns-clause-steps c = let it = c.args.self.now in one_line it.text.now it.from c.line_end-end.result c.if-from-text.false c.line_end-end.ensures.value
