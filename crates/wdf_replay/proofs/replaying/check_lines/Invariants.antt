-- The lines so far are those of the run on the core.
use Rattle.std.proofs.Common.{◌≡◌, length, ◌-◌}
use Rattle.wdf_replay.specs.Steps.{IsTold}
use Rattle.wdf_replay.proofs.Replayed.{IsReplayedTo}
use Rattle.wdf_replay.proofs.replaying.check_lines.Given as goal

abbrev pub invariant-loop-at : goal.invariant-loop-at
invariant-loop-at g l =
    (l.core.plan ≡ l.initial.core.plan)
    × IsReplayedTo l.initial.core.plan g.A.Agent.meaning l.trace l.at l.number l.core.journal l.told.lines
    × IsTold l.initial.core.plan g.A.Agent.meaning l.core.journal l.told

abbrev pub decreases-loop-at : goal.decreases-loop-at
decreases-loop-at g l = length l.trace - l.at
