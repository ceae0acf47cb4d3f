-- No work item is queued.
use Rattle.std.proofs.Common.{lit≤, refl}
use Rattle.wdf_defer.proofs.QueuedWork.{made_empty, made_long}
use Rattle.wdf_defer.proofs.work_items.WorkItems.make.Goals as goal

pub invariant_of-result : goal.invariant_of-result
invariant_of-result c = record { room = made_long 204800 c.in_ok-make.field-0 (lit≤ tt) c.in_ok-make.ensures }

pub returns : goal.returns
returns c = rw (made_empty 204800 c.in_ok-make.field-0 c.in_ok-make.ensures) refl
