-- One request more is changed.
use Rattle.std.proofs.Common.{add-one, refl}
use Rattle.wdf_model.specs.agents.Connector.{cancelled_any}
use Rattle.wdf_dev.proofs.Mapping.{changed_next}
use Rattle.wdf_stack.proofs.line.cancel_all.Goals as goal

pub loop-k-preserved : goal.loop-k-preserved
loop-k-preserved c =
    rw (c.loop-k.invariant, add-one, changed_next (cancelled_any) c.args.sent.now c.loop-k.k _ c.loop-k-test.true) refl
