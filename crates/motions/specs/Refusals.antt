-- The numbers of the reasons for a refusal, refusals without a motion, and how a refusal is written. Assumes nothing.
--     number_of r         the number that a shop knows the reason r by
--     refused_on r l      the reason r, of the line l and no motion
--     refused_setting     reason Setting, of no line and no motion
--     written r           the word refused, then the number, the line and the motion of r in decimals, a blank before each
use Rattle.std.specs.Prelude.{ℕ, List, ◌++◌}
use Rattle.std.specs.Fmt.{decimal}
use lib.Chars.{codes}
use Rattle.motions.specs.declared.refusal.Reason.{Reason}
use Rattle.motions.specs.declared.refusal.Reason.TheVariants.{TextSize, LineForm, ValueRange, MotionRange, ArcRule, NoTarget, NoEnd, FixedArea, WorkingArea, Setting, MotionsWait, LinesRun, MotionsMade, IndexRoom, NothingWaits, RepeatsOpen}
use Rattle.motions.specs.declared.refusal.Refusal.{Refusal}

abbrev pub number_of : Reason → ℕ
number_of TextSize = 1
number_of LineForm = 2
number_of ValueRange = 3
number_of MotionRange = 4
number_of ArcRule = 5
number_of NoTarget = 6
number_of NoEnd = 7
number_of FixedArea = 8
number_of WorkingArea = 9
number_of Setting = 10
number_of MotionsWait = 21
number_of LinesRun = 22
number_of MotionsMade = 23
number_of IndexRoom = 24
number_of NothingWaits = 25
number_of RepeatsOpen = 26

abbrev pub refused_on : Reason → ℕ → Refusal
refused_on r l = record { reason = r; line = l; motion = 0 }

abbrev pub refused_setting : Refusal
refused_setting = refused_on Setting 0

abbrev pub written : Refusal → List ℕ
written r =
    codes "refused " ++ decimal (number_of r.reason) ++ codes " " ++ decimal r.line ++ codes " " ++ decimal r.motion
