-- The device is closed.
use Rattle.wdf_qctl.proofs.Closing.{shut_is}
use Rattle.wdf_qctl.proofs.control.Control.shut.Goals as goal

pub returns-clause-done : goal.returns-clause-done
returns-clause-done c = shut_is c.self.inside.kept.items c.self.inside.closed.items _ c.args.device.0 c.args.self.now c.self.view_is c.put_at.ensures.entries
