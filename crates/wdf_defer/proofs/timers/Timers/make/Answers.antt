-- No timer is queued.
use Rattle.std.proofs.Common.{lit≤, refl}
use Rattle.wdf_defer.proofs.QueuedWork.{made_empty, made_long}
use Rattle.wdf_defer.proofs.TimersOfSet.{sound_none}
use Rattle.wdf_defer.proofs.timers.Timers.make.Goals as goal

pub invariant_of-result : goal.invariant_of-result
invariant_of-result c =
    let queued = c.in_ok-make.field-0 in
    let reached = c.in_ok-make-3.field-0 in
    sound_none queued reached c.in_ok-make-2.field-0 c.in_ok-make-4.field-0 18446744073709551615
    (made_empty 204800 queued c.in_ok-make.ensures) (made_long 204800 queued (lit≤ tt) c.in_ok-make.ensures)
    (made_empty 204800 reached c.in_ok-make-3.ensures) (made_long 204800 reached (lit≤ tt) c.in_ok-make-3.ensures)

pub returns : goal.returns
returns c = rw (made_empty 204800 c.in_ok-make.field-0 c.in_ok-make.ensures) refl
