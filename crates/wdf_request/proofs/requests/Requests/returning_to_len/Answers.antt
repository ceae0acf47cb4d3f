-- The count is that of the requests, and so are as many as are found.
use Rattle.wdf_request.specs.Requests.{requests_in}
use Rattle.wdf_request.proofs.ForQueues.{returning_counted, returning_found}
use Rattle.wdf_request.proofs.requests.Requests.returning_to_len.Goals as goal

pub returns-then-q-lt-OBJECTS : goal.returns-then-q-lt-OBJECTS
returns-then-q-lt-OBJECTS c =
    rw (c.of.ensures, ← c.self.view_is) (returning_counted (requests_in c.self.inside) c.self.inside.returning c.args.q.0 c.self.invariant.returning c.if-q-lt-OBJECTS.true)

pub returns-else-q-lt-OBJECTS : goal.returns-else-q-lt-OBJECTS
returns-else-q-lt-OBJECTS c =
    rw (← c.self.view_is, c.count_returning.ensures.value, c.deref.ensures.value) (returning_found (requests_in c.self.inside) c.args.q.0)
