-- The two clauses are the lemmas on Local and on Log.
use Rattle.law_machine_base.proofs.FactsOfEvents.{local_moves_frame, log_moves_frame}
use Rattle.law_machine_base.proofs.facts_of_events.steps_inside_a_frame.Goals as goal

pub returns-clause-local : goal.returns-clause-local
returns-clause-local c s = local_moves_frame

pub returns-clause-log : goal.returns-clause-log
returns-clause-log c s = log_moves_frame
