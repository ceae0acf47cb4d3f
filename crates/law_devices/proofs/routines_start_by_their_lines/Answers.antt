-- The clause is the lemma.
use Rattle.law_devices.proofs.Laws.{routine_told}
use Rattle.law_devices.proofs.routines_start_by_their_lines.Goals as goal

pub returns : goal.returns
returns g c = λ plan m device run has resolved is_run n. routine_told plan m device run has resolved is_run n
