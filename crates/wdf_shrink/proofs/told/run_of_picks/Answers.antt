-- The picks of the run are these.
use Rattle.wdf_shrink.proofs.told.run_of_picks.Goals as goal

pub returns-clause-picked : goal.returns-clause-picked
returns-clause-picked c = rw (c.in_ok-core.ensures.plan, c.in_ok-core.ensures.journal) at c.run_order.ensures.picked
