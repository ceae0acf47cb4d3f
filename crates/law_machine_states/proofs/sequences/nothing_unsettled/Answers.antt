-- The clause is the lemma on what is unsettled.
use Rattle.law_machine_states.proofs.UnsettledRuns.{nothing_unsettled_at_each}
use Rattle.law_machine_states.proofs.sequences.nothing_unsettled.Goals as goal

pub returns : goal.returns
returns g c = nothing_unsettled_at_each
