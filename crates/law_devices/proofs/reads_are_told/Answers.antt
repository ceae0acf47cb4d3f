-- The clause is the lemma.
use Rattle.law_devices.proofs.Laws.{read_told}
use Rattle.law_devices.proofs.reads_are_told.Goals as goal

pub returns : goal.returns
returns g c = λ plan m device run has resolved is_run n. read_told plan m device run has resolved is_run n
