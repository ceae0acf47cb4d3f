-- The clause is the lemma on the program's agents.
use Rattle.law_idle.proofs.Program.{idle_runs_keep_law}
use Rattle.law_idle.proofs.idle_runs_keep_their_law.Goals as goal

pub returns : goal.returns
returns g = idle_runs_keep_law
