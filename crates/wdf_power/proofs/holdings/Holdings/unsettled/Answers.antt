-- The count is that of the unsettled requests, and so are as many as are found.
use Rattle.wdf_power.specs.Held.{holdings_in}
use Rattle.wdf_power.proofs.Readers.{unsettled_counted, unsettled_found}
use Rattle.wdf_power.proofs.holdings.Holdings.unsettled.Goals as goal

pub returns-then-d-lt-OBJECTS : goal.returns-then-d-lt-OBJECTS
returns-then-d-lt-OBJECTS c =
    let s = c.self.invariant in
    rw (← c.self.view_is, c.of.ensures) (unsettled_counted (holdings_in c.self.inside) c.self.inside.unsettled c.args.d.0 s.unsettled c.if-d-lt-OBJECTS.true)

pub returns-else-d-lt-OBJECTS : goal.returns-else-d-lt-OBJECTS
returns-else-d-lt-OBJECTS c =
    rw (← c.self.view_is, c.count_unsettled.ensures.value, c.deref.ensures.value, c.deref-else-d-lt-OBJECTS.ensures.value) (unsettled_found (holdings_in c.self.inside) c.args.d.0)
