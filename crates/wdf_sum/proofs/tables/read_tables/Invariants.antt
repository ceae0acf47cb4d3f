-- The lines so far, and those that are left.
use Rattle.std.proofs.Common.{length, ◌-◌}
use Rattle.wdf_sum.proofs.Taking.{IsReadTo}
use Rattle.wdf_sum.proofs.tables.read_tables.Given as goal

abbrev pub invariant-loop-at : goal.invariant-loop-at
invariant-loop-at l = IsReadTo l.text l.at l.tables l.number

abbrev pub decreases-loop-at : goal.decreases-loop-at
decreases-loop-at l = length l.text - l.at
