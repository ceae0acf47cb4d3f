-- Each clause is a lemma on runs.
use Rattle.law_queue_modes.proofs.Purged.{purged_at_each, told_purged}
use Rattle.law_queue_modes.proofs.purged_queues_are_empty.Goals as goal

pub returns-clause-state : goal.returns-clause-state
returns-clause-state g c = purged_at_each

pub returns-clause-told : goal.returns-clause-told
returns-clause-told g c = told_purged
