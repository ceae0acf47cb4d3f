-- The law is a lemma on runs.
use Rattle.law_targets.proofs.Cancels.{nothing_changes}
use Rattle.law_targets.proofs.cancels_of_sent_requests_change_nothing.Goals as goal

pub returns : goal.returns
returns g c = nothing_changes
