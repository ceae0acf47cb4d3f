-- One queue more is written.
use Rattle.wdf_qctl.proofs.Closing.{written}
use Rattle.wdf_qctl.proofs.control.Control.write.Goals as goal

pub returns-clause-done : goal.returns-clause-done
returns-clause-done c = written c.self.inside.kept.items c.self.inside.closed.items c.args.q.0 c.args.control c.args.self.now c.self.view_is c.requires.there c.requires.seen
