-- The clause is the lemma on each event.
use Rattle.law_idle.proofs.InTime.{idle_law_at_each}
use Rattle.law_idle.proofs.runs_keep_idle_law.Goals as goal

pub returns : goal.returns
returns g c plan m policy run k e has resolved is_run at = idle_law_at_each plan m policy has run resolved is_run k e at
