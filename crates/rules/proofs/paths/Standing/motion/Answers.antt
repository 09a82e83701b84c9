use Rattle.std.proofs.Common.{true, false, Some, None, refl, sym, ◌∙◌}
use Rattle.std.proofs.lemmas.Result.{err_from_is_err_and}
use Rattle.rules.specs.Model.{row_at, misplaced_at}
use Rattle.rules.proofs.Judging.{judged_same, judged}
use Rattle.rules.proofs.paths.Standing.motion.Goals as goal

pub returns-in_err-motion : goal.returns-in_err-motion
returns-in_err-motion c =
    let m = row_at c.args.self.now c.args.frame.now c.args.words.now in
    let wrong = misplaced_at c.args.self.now c.args.words.now in
    let made = sym c.in_ok-row.ensures.ok_part ∙ c.row.ensures.value in
    let p = err_from_is_err_and c.from_residual-in_err-motion.result c.from_residual-in_err-motion.ensures.1 in
    rw (p.1, p.2) (record { value = judged m c.in_ok-row.row made wrong wrong (Some _) refl c.in_err-motion.ensures.value })

pub returns-then-misplaced : goal.returns-then-misplaced
returns-then-misplaced c =
    let m = row_at c.args.self.now c.args.frame.now c.args.words.now in
    let wrong = misplaced_at c.args.self.now c.args.words.now in
    let made = sym c.in_ok-row.ensures.ok_part ∙ c.row.ensures.value in
    record { value = judged m c.in_ok-row.row made wrong true None c.if-misplaced.ensures.value c.in_ok-motion.ensures.value.0 }

pub returns : goal.returns
returns c =
    let m = row_at c.args.self.now c.args.frame.now c.args.words.now in
    let wrong = misplaced_at c.args.self.now c.args.words.now in
    let made = sym c.in_ok-row.ensures.ok_part ∙ c.row.ensures.value in
    record {
      value = (
        judged m c.in_ok-row.row made wrong false None c.if-misplaced.ensures.value c.in_ok-motion.ensures.value.0,
        c.in_ok-motion.ensures.value.1 ∙ judged_same m c.in_ok-row.row made,
      );
    }
