-- The clause is the lemma, with the agents of a run.
use Rattle.wdf_dev.specs.Agents.{agent_meaning}
use Rattle.law_hunt.proofs.OfKinds.{kind_is}
use Rattle.law_hunt.proofs.kinds_have_the_status_of_the_run.Goals as goal

pub returns : goal.returns
returns c = λ es plan run. kind_is es plan agent_meaning run
