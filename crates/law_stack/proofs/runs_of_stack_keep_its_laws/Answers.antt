-- The clauses are the lemmas on these agents, on what connectors post and on what the stack manager posts.
use Rattle.wdf_stack.specs.Agents.{stack_meaning}
use Rattle.law_stack.proofs.Requests.{requests_keep}
use Rattle.law_stack.proofs.Served.{stack_agents_are, stack_runs_keep_laws}
use Rattle.law_stack.proofs.runs_of_stack_keep_its_laws.Goals as goal

pub returns-clause-agents : goal.returns-clause-agents
returns-clause-agents c = stack_agents_are

pub returns-clause-requests : goal.returns-clause-requests
returns-clause-requests c = λ plan run k e is_run at. requests_keep plan stack_meaning run k e stack_agents_are is_run at

pub returns-clause-all : goal.returns-clause-all
returns-clause-all c = stack_runs_keep_laws
