-- The first due timer is at its place, or none is due.
use Rattle.std.proofs.Common.{arith}
use Rattle.wdf_offers.proofs.DueTimers.{due_past, first_due, none_due}
use Rattle.wdf_offers.proofs.due.next_timer.Goals as goal

pub returns-in-None : goal.returns-in-None
returns-in-None g c =
    none_due c.args.parts.now (rw c.timers.ensures at c.in-None.ensures.apart) c.args.from c.args.end (rw (c.timers.ensures, c.now.ensures) at c.in-None.ensures.next)

pub returns-then-place-end : goal.returns-then-place-end
returns-then-place-end g c =
    first_due c.args.parts.now (rw c.timers.ensures at c.in-Some.ensures.apart) c.args.from c.args.end c.in-Some.place (rw (c.timers.ensures, c.now.ensures) at c.in-Some.ensures.next) c.if-place-end.true

pub returns-else-place-end : goal.returns-else-place-end
returns-else-place-end g c =
    due_past c.args.parts.now (rw c.timers.ensures at c.in-Some.ensures.apart) c.args.from c.args.end c.in-Some.place (rw (c.timers.ensures, c.now.ensures) at c.in-Some.ensures.next) (omega (arith, c.if-place-end.false))
