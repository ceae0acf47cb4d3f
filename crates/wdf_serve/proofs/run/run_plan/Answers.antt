-- The run that the threads made is one of this plan, and has ended.
use Rattle.wdf_serve.proofs.run.run_plan.Goals as goal

pub returns-clause-ended : goal.returns-clause-ended
returns-clause-ended g c = rw c.in_ok-core.ensures.plan at c.run_threads.ensures.ended
