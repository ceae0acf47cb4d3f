-- The clause is the lemma.
use Rattle.law_handles.proofs.Runs.{named_at_each}
use Rattle.law_handles.proofs.known_handles_are_named.Goals as goal

pub returns : goal.returns
returns g c = λ plan m run resolved is_run n. named_at_each plan m run resolved is_run n
