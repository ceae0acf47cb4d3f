-- Those come back that wait for a free lock.
use Rattle.std.proofs.Common.{◌∙◌}
use Rattle.wdf_offers.proofs.ComingBack.{coming_counted}
use Rattle.wdf_offers.proofs.parked.coming_len.Goals as goal

pub returns-clause-length : goal.returns-clause-length
returns-clause-length g c = c.freed_len.ensures ∙ coming_counted c.args.parts.now c.args.plan.now g.A.Agent.meaning c.args.cpu.0 c.requires.counted
