-- A search with too many states shows that the callback is too big; one at its end has all states.
use Rattle.std.proofs.Common.{rules}
use Rattle.wdf_lint.specs.Searches.{table_of}
use Rattle.wdf_lint.proofs.Searching.{big, ends}
use Rattle.wdf_lint.proofs.search.explore.Goals as goal
use Rattle.wdf_lint.proofs.search.explore.Goals.{then-loop-next-test+else-len-le-STATES, else-loop-next-test}

pub returns-then-len-gt-STATES : goal.returns-then-len-gt-STATES
returns-then-len-gt-STATES c = big c.args.plan.now c.args.w.now.script (table_of c.loop-next.search) c.loop-next.invariant.table (search rules) c.len-2.ensures.unique

pub returns-else-len-gt-STATES : goal.returns-else-len-gt-STATES
returns-else-len-gt-STATES c = ends c.args.plan.now c.args.w.now.script (table_of c.loop-next.search) c.loop-next.next c.loop-next.invariant (elim c.loop-next-test.branch [
  | then-loop-next-test+else-len-le-STATES w ↦ absurd (search rules)
  | else-loop-next-test w ↦ search rules
]) (search rules)
