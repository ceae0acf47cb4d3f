-- The objects so far.
use Rattle.std.proofs.Common.{◌≡◌}
use Rattle.wdf_ready.specs.Blocks.{is_startable}
use Rattle.wdf_ready.proofs.Grouping.{up_to}
use Rattle.wdf_ready.proofs.groups.startable.Given as goal

abbrev pub invariant-loop-k : goal.invariant-loop-k
invariant-loop-k l = l.ids.items ≡ up_to (is_startable l.plan l.rank) l.k
