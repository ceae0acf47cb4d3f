-- The agents are as the lemmas say; what they are done with is the lemma on runs.
use Rattle.law_targets.proofs.Agents.{idle_target, stack_target, usual_target}
use Rattle.law_targets.proofs.Runs.{its_target, may_be_done}
use Rattle.wdf_dev.specs.Agents.{agent_meaning}
use Rattle.wdf_idle.specs.Agents.{idle_meaning}
use Rattle.law_targets.proofs.targets_of_the_program_are_such.Goals as goal

pub returns-clause-usual : goal.returns-clause-usual
returns-clause-usual g = usual_target

pub returns-clause-idle : goal.returns-clause-idle
returns-clause-idle g = idle_target

pub returns-clause-stack : goal.returns-clause-stack
returns-clause-stack g = stack_target

pub returns-clause-runs : goal.returns-clause-runs
returns-clause-runs g = λ plan run resolved is_run n k h s answer at.
    let t = its_target plan agent_meaning run is_run n k h s answer at in
    (t.0, t.1, may_be_done plan agent_meaning run resolved is_run k t.0 (usual_target plan k t.0 t.1) n h s answer at)

pub returns-clause-idle_runs : goal.returns-clause-idle_runs
returns-clause-idle_runs g = λ plan run resolved is_run n k h s answer at.
    let t = its_target plan idle_meaning run is_run n k h s answer at in
    (t.0, t.1, may_be_done plan idle_meaning run resolved is_run k t.0 (idle_target plan k t.0 t.1) n h s answer at)
