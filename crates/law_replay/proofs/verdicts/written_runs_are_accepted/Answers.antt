-- The clause is the lemma.
use Rattle.law_replay.proofs.Written.{accepted_again}
use Rattle.law_replay.proofs.verdicts.written_runs_are_accepted.Goals as goal

pub returns : goal.returns
returns c = accepted_again
