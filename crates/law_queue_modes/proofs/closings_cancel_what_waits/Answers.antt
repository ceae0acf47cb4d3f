-- The law is a lemma on runs.
use Rattle.law_queue_modes.proofs.Closing.{closing_at}
use Rattle.law_queue_modes.proofs.closings_cancel_what_waits.Goals as goal

pub returns : goal.returns
returns g c = closing_at
