-- There is one where the count isn't 0.
use Rattle.wdf_model.specs.rules.Starts.{is_unfinished_at}
use Rattle.wdf_request.specs.Keys.{unfinished_device}
use Rattle.wdf_maps.proofs.Counting.{any_at}
use Rattle.wdf_request.proofs.Belonging.{is_at_device}
use Rattle.wdf_request.proofs.requests.Requests.unfinished_at.Goals as goal

pub returns-then-device-lt-OBJECTS : goal.returns-then-device-lt-OBJECTS
returns-then-device-lt-OBJECTS c =
    rw (c.of.ensures, ← c.self.view_is) (any_at unfinished_device (is_unfinished_at c.args.device.0) c.self.inside.all.items c.self.inside.unfinished c.args.device.0 c.if-device-lt-OBJECTS.true c.self.invariant.unfinished (is_at_device c.args.device.0))
