-- Each clause is a lemma on runs.
use Rattle.law_targets.proofs.InTime.{in_time}
use Rattle.law_targets.proofs.Ticks.{none_is_due}
use Rattle.law_targets.proofs.targets_are_prompt.Goals as goal

pub returns-clause-in_time : goal.returns-clause-in_time
returns-clause-in_time g = λ plan run resolved is_run n k t number h it. in_time plan run resolved is_run k t number n h it

pub returns-clause-ticks : goal.returns-clause-ticks
returns-clause-ticks g = λ plan run resolved is_run n time k t at number h it. none_is_due plan run resolved is_run n k t number time at h it
