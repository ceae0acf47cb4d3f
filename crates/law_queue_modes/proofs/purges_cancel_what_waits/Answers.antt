-- The law is a lemma on runs.
use Rattle.law_queue_modes.proofs.Withdrawn.{purge_at}
use Rattle.law_queue_modes.proofs.purges_cancel_what_waits.Goals as goal

pub returns : goal.returns
returns g c = purge_at
