-- The clause is the lemma on sequences under way.
use Rattle.law_stuck_named.proofs.Closed.{waits_for_others}
use Rattle.law_stuck_named.proofs.sequences_never_wait_for_the_framework.Goals as goal

pub returns : goal.returns
returns g c = λ plan m run resolved is_run ends k d s x h. waits_for_others plan m run resolved is_run ends k d s x h
