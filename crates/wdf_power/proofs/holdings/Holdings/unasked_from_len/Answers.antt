-- The count is that of these requests, and so are as many as are found.
use Rattle.wdf_power.specs.Held.{holdings_in}
use Rattle.wdf_power.proofs.ForQueues.{unasked_counted, unasked_found}
use Rattle.wdf_power.proofs.holdings.Holdings.unasked_from_len.Goals as goal

pub returns-then-q-lt-OBJECTS : goal.returns-then-q-lt-OBJECTS
returns-then-q-lt-OBJECTS c =
    rw (← c.self.view_is, c.of.ensures) (unasked_counted (holdings_in c.self.inside) c.self.inside.unasked c.args.q.0 c.self.invariant.unasked c.if-q-lt-OBJECTS.true)

pub returns-else-q-lt-OBJECTS : goal.returns-else-q-lt-OBJECTS
returns-else-q-lt-OBJECTS c =
    rw (← c.self.view_is, c.count_unasked.ensures.value, c.deref.ensures.value) (unasked_found (holdings_in c.self.inside) c.args.q.0)
