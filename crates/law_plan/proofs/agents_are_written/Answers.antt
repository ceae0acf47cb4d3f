use Rattle.law_plan.proofs.AgentLines.{agents_are}
use Rattle.law_plan.proofs.agents_are_written.Goals as goal

pub returns : goal.returns
returns c = λ scene s e. agents_are scene s e
