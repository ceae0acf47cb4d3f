-- What one part rules out is passed over.
use Rattle.wdf_offers.proofs.Skips.{startable_answer}
use Rattle.wdf_ready.proofs.search.next_start.Goals as goal

pub returns : goal.returns
returns g c =
    startable_answer c.args.plan.now g.A.Agent.meaning c.args.parts.now c.args.cpu c.args.rank c.args.from c.args.end c.next_startable.result c.requires.all c.requires.below c.requires.few c.next_startable.ensures
