-- The search goes on.
use Rattle.std.proofs.Common.{◌-◌}
use Rattle.wdf_lint.specs.Searches.{IsSearch, table_of}
use Rattle.wdf_lint.proofs.search.explore.Given as goal

abbrev pub invariant-loop-next : goal.invariant-loop-next
invariant-loop-next l = IsSearch l.plan l.w.script (table_of l.search) l.next

abbrev pub decreases-loop-next : goal.decreases-loop-next
decreases-loop-next l = 10001 - l.next
