use Rattle.std.proofs.Common.{◌≡◌, ◌*◌}
use Rattle.wdf_sets.specs.Members.{rank}
use Rattle.wdf_sets.proofs.id_set.IdSet.before_block.Given as goal

abbrev pub invariant-loop-counted : goal.invariant-loop-counted
invariant-loop-counted l = l.below ≡ rank (512 * l.counted) l.self-inside.bits
