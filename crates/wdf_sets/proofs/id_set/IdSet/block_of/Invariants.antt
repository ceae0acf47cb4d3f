use Rattle.std.proofs.Common.{◌≡◌, ◌+◌, ◌-◌, ◌*◌, length}
use Rattle.wdf_sets.specs.Members.{rank}
use Rattle.wdf_sets.proofs.id_set.IdSet.block_of.Given as goal

abbrev pub invariant-loop-skipped : goal.invariant-loop-skipped
invariant-loop-skipped l = l.skipped + rank (512 * l.block) l.self-inside.bits ≡ l.k

abbrev pub decreases-loop-skipped : goal.decreases-loop-skipped
decreases-loop-skipped l = length l.self-inside.counts.items - l.block
