-- Nothing may come for the objects on which no callback of the rank is due.
use Rattle.wdf_offers.proofs.NoneAhead.{nothing_for}
use Rattle.wdf_offers.proofs.ahead.next_object.Goals as goal

pub returns-clause-nothing : goal.returns-clause-nothing
returns-clause-nothing g c = nothing_for c.args.plan.now g.A.Agent.meaning c.args.parts.now c.requires.settled c.args.rank c.args.from c.next_by_rank.result c.next_by_rank.ensures
