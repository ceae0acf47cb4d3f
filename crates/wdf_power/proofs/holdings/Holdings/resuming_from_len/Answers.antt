-- The count is that of these requests, and so are as many as are found.
use Rattle.wdf_power.specs.Held.{holdings_in}
use Rattle.wdf_power.proofs.ForQueues.{resuming_counted, resuming_found}
use Rattle.wdf_power.proofs.holdings.Holdings.resuming_from_len.Goals as goal

pub returns-then-q-lt-OBJECTS : goal.returns-then-q-lt-OBJECTS
returns-then-q-lt-OBJECTS c =
    rw (← c.self.view_is, c.of.ensures) (resuming_counted (holdings_in c.self.inside) c.self.inside.resuming c.args.q.0 c.self.invariant.resuming c.if-q-lt-OBJECTS.true)

pub returns-else-q-lt-OBJECTS : goal.returns-else-q-lt-OBJECTS
returns-else-q-lt-OBJECTS c =
    rw (← c.self.view_is, c.count_resuming.ensures.value, c.deref.ensures.value) (resuming_found (holdings_in c.self.inside) c.args.q.0)
