-- There is one where the count isn't 0.
use Rattle.wdf_model.specs.declared.entries.Request.{Request}
use Rattle.wdf_maps.proofs.Counting.{any_at}
use Rattle.wdf_request.proofs.Belonging.{is_at_target}
use Rattle.wdf_request.proofs.requests.Requests.sent_to.Goals as goal

pub returns-then-t-lt-OBJECTS : goal.returns-then-t-lt-OBJECTS
returns-then-t-lt-OBJECTS c =
    rw (c.of.ensures, ← c.self.view_is) (any_at _ _ c.self.inside.all.items c.self.inside.sent c.args.t.0 c.if-t-lt-OBJECTS.true c.self.invariant.sent (λ (r : Request). is_at_target c.args.t.0 r.place))
