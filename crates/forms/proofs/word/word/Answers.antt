use Rattle.std.proofs.Common.{rules}
use Rattle.forms.proofs.word.word.Goals as goal

pub returns-in_err-attached-in-Word-clause-value : goal.returns-in_err-attached-in-Word-clause-value
returns-in_err-attached-in-Word-clause-value c = let none = c.in_err-attached-in-Word.ensures.value c.args.c.line.now in search rules
