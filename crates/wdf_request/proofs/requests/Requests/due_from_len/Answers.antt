-- The count is that of the requests, and so are as many as are found.
use Rattle.wdf_request.specs.Requests.{requests_in}
use Rattle.wdf_request.proofs.ForQueues.{due_counted, due_found}
use Rattle.wdf_request.proofs.requests.Requests.due_from_len.Goals as goal

pub returns-then-q-lt-OBJECTS : goal.returns-then-q-lt-OBJECTS
returns-then-q-lt-OBJECTS c =
    rw (c.of.ensures, ← c.self.view_is) (due_counted (requests_in c.self.inside) c.self.inside.due_held c.args.q.0 c.self.invariant.due_held c.if-q-lt-OBJECTS.true)

pub returns-else-q-lt-OBJECTS : goal.returns-else-q-lt-OBJECTS
returns-else-q-lt-OBJECTS c =
    rw (← c.self.view_is, c.count_due.ensures.value, c.deref.ensures.value) (due_found (requests_in c.self.inside) c.args.q.0)
