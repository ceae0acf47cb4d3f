-- The clause is the lemma on the agents.
use Rattle.law_replay.proofs.Fitting.{agents_of_plan}
use Rattle.law_replay.proofs.fitting_agents.agents_fit.Goals as goal

pub returns : goal.returns
returns c = agents_of_plan
