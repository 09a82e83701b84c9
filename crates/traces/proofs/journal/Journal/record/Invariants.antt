use Rattle.std.proofs.Common.{◌≡◌}
use Rattle.rules.specs.Model.{setup_is, state_in, left_in}
use Rattle.traces.specs.Model.{recorded, noted}
use Rattle.traces.specs.Traces.{runs, trace}
use Rattle.traces.proofs.Recording.{onto}
use Rattle.traces.proofs.journal.Journal.record.Given as goal

-- the motions so far, and then those of the rest of the run, are those of the trace
abbrev pub invariant-lines : goal.invariant-lines
invariant-lines g l =
    (onto (recorded l.self) (runs (left_in l.run) (g.S.Source.lines l.source) (state_in l.run)) ≡ trace (g.S.Source.lines l.source) (setup_is l.setup))
    × (noted l.self ≡ (state_in l.run).made)

abbrev pub decreases-lines : goal.decreases-lines
decreases-lines g l = left_in l.run
