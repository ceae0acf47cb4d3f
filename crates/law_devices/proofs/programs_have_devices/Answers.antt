-- Each clause is a lemma on agents.
use Rattle.law_devices.proofs.Programs.{idle_have, stack_have, usual_have}
use Rattle.law_devices.proofs.programs_have_devices.Goals as goal

pub returns-clause-usual : goal.returns-clause-usual
returns-clause-usual c = usual_have

pub returns-clause-idle : goal.returns-clause-idle
returns-clause-idle c = idle_have

pub returns-clause-stack : goal.returns-clause-stack
returns-clause-stack c = stack_have
