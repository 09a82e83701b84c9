-- How the answer to a line is written. Assumes nothing.
--     verdict_text v      the word for v
--     unjudged_text w     the word for w, and for a refusal a blank and the number of its reason in decimals
--     answer_text v       either
use Rattle.std.specs.Prelude.{ℕ, List, ◌++◌, Ok, Err, Result}
use Rattle.std.specs.Fmt.{decimal}
use lib.Chars.{codes}
use Rattle.motions.specs.Refusals.{number_of}
use Rattle.pathcheck.specs.declared.judging.Verdict.{Verdict}
use Rattle.pathcheck.specs.declared.judging.Verdict.TheVariants.{Inside, Outside}
use Rattle.pathcheck.specs.declared.judging.Unjudged.{Unjudged}
use Rattle.pathcheck.specs.declared.judging.Unjudged.TheVariants.{Refused, Unreadable}

abbrev pub verdict_text : Verdict → List ℕ
verdict_text Inside = codes "inside"
verdict_text Outside = codes "outside"

abbrev pub unjudged_text : Unjudged → List ℕ
unjudged_text (Refused why) = codes "refused " ++ decimal (number_of why)
unjudged_text Unreadable = codes "unreadable"

abbrev pub answer_text : Result Verdict Unjudged → List ℕ
answer_text (Ok v) = verdict_text v
answer_text (Err w) = unjudged_text w
