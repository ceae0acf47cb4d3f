-- The rows whose requests are found by a test of places.
use Rattle.std.proofs.Common.{◌∙◌}
use Rattle.wdf_waits.proofs.Rows.{purge_row, target_stop_row}
use Rattle.wdf_waits.proofs.frames.call_cause.Goals as goal

pub returns-in-WdfIoQueuePurgeSynchronously : goal.returns-in-WdfIoQueuePurgeSynchronously
returns-in-WdfIoQueuePurgeSynchronously g c =
    c.by_held_or_returning.ensures
    ∙ purge_row c.args.plan.now c.args.parts.now c.args.call.now c.object_in-o.result.0 c.in-WdfIoQueuePurgeSynchronously.is c.object_in-o.ensures

pub returns-in-WdfIoTargetStop : goal.returns-in-WdfIoTargetStop
returns-in-WdfIoTargetStop g c =
    c.by_sent.ensures ∙ target_stop_row c.args.plan.now c.args.parts.now c.args.call.now c.object_in-o.result.0 c.in-WdfIoTargetStop.is c.object_in-o.ensures
