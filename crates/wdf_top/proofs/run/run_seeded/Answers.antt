-- The picks of the run are the words of the seed.
use Rattle.wdf_top.proofs.run.run_seeded.Goals as goal

pub returns-clause-picked : goal.returns-clause-picked
returns-clause-picked g c = rw (c.in_ok-core.ensures.plan, c.in_ok-core.ensures.journal) at c.run_seed.ensures.picked
