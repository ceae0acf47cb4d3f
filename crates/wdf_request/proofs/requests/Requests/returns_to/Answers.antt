-- There is one where the count isn't 0.
use Rattle.wdf_model.specs.declared.entries.Request.{Request}
use Rattle.wdf_maps.proofs.Counting.{any_at}
use Rattle.wdf_request.proofs.Belonging.{is_at_queue}
use Rattle.wdf_request.proofs.requests.Requests.returns_to.Goals as goal

pub returns-then-q-lt-OBJECTS : goal.returns-then-q-lt-OBJECTS
returns-then-q-lt-OBJECTS c =
    rw (c.of.ensures, ← c.self.view_is) (any_at _ _ c.self.inside.all.items c.self.inside.returning c.args.q.0 c.if-q-lt-OBJECTS.true c.self.invariant.returning (λ (r : Request). is_at_queue c.args.q.0 r.place))
