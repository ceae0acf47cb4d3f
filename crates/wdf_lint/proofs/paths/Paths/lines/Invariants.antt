-- The lines so far are those from here to the path's end, the last first.
use Rattle.wdf_lint.proofs.PathTables.{IsReading}
use Rattle.wdf_lint.proofs.paths.Paths.lines.Given as goal

abbrev pub invariant-loop-at : goal.invariant-loop-at
invariant-loop-at l = IsReading l.self-inside.ends.items l.n l.at l.lines

abbrev pub decreases-loop-at : goal.decreases-loop-at
decreases-loop-at l = l.at
