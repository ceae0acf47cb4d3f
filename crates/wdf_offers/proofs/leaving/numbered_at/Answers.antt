-- The event is that of the object with this number.
use Rattle.std.proofs.Common.{◌<◌, length, arith}
use Rattle.wdf_offers.specs.Leaving.{leavers}
use Rattle.wdf_offers.proofs.Leavers.{leaver_is, leaver_there, leavers_counted}
use Rattle.wdf_offers.proofs.leaving.numbered_at.Goals as goal

pub returns-then-k-len : goal.returns-then-k-len
returns-then-k-len g c =
    let all = leavers_counted c.args.plan.now g.A.Agent.meaning c.args.parts.now c.args.leaving c.requires.numbered c.requires.settled (rw c.work_items.ensures at c.before-in_order.ensures.rising) (rw c.timers.ensures at c.due_before-timed.ensures.rising) in
    let count = c.len-len.ensures.count in
    let past = c.if-k-len.true in
    omega arith

pub returns-in-Some : goal.returns-in-Some
returns-in-Some g c =
    rw (c.event.ensures, c.handle_in.ensures)
    (leaver_is c.args.plan.now g.A.Agent.meaning c.args.parts.now c.args.leaving c.requires.numbered c.requires.settled (rw c.work_items.ensures at c.before-in_order.ensures.rising) (rw c.timers.ensures at c.due_before-timed.ensures.rising) c.args.k c.at.result c.in-Some.o c.in-Some.is c.at.ensures)

pub returns-in-None : goal.returns-in-None
returns-in-None g c =
    let low : c.args.k < length (leavers c.args.leaving c.args.parts.now) = let count = c.len-len.ensures.count in let few = c.if-k-len.false in omega arith in
    absurd (leaver_there (leavers c.args.leaving c.args.parts.now) c.args.k c.at.result (λ o. o.0) low c.at.ensures c.in-None.is)
