-- No device is closed, and no notification is due.
use Rattle.std.proofs.Common.{◌*◌, arith}
use Rattle.std.specs.Int.{div_ceil}
use Rattle.wdf_qctl.proofs.Closing.{opened}
use Rattle.wdf_qctl.proofs.Due.{none_due, rounded_up}
use Rattle.wdf_qctl.proofs.control.Control.make.Goals as goal

pub returns : goal.returns
returns c = opened c.in_ok-kept.kept.items c.in_ok-closed.closed.items c.args.plan.now c.in_ok-kept.ensures c.in_ok-closed.ensures.items

pub invariant_of-result : goal.invariant_of-result
invariant_of-result c =
    let ids = c.len-2.result in
    let rounded = rounded_up ids in
    record {
      room = omega (arith, c.len.ensures, c.in_ok-closed.ensures.capacity);
      due = none_due c.args.plan.now c.in_ok-kept.kept.items (4096 * div_ceil ids 4096) c.in_ok-due.due c.in_ok-kept.ensures c.in_ok-due.ensures (omega (arith, c.len-2.ensures));
    }
