-- As many may come as may leave.
use Rattle.std.proofs.Common.{◌∙◌}
use Rattle.wdf_offers.proofs.Leavers.{leavers_counted}
use Rattle.wdf_offers.proofs.leaving.numbered_len.Goals as goal

pub returns-clause-length : goal.returns-clause-length
returns-clause-length g c = c.len.ensures.count ∙ leavers_counted c.args.plan.now g.A.Agent.meaning c.args.parts.now c.args.leaving c.requires.numbered c.requires.settled (rw c.work_items.ensures at c.before-in_order.ensures.rising) (rw c.timers.ensures at c.due_before-timed.ensures.rising)
