-- Each clause is a lemma on runs.
use Rattle.law_devices.proofs.Laws.{line_at, register_at}
use Rattle.law_devices.proofs.values_are_told.Goals as goal

pub returns-clause-registers : goal.returns-clause-registers
returns-clause-registers g c = λ plan m device run has resolved is_run n. register_at plan m device run has resolved is_run n

pub returns-clause-lines : goal.returns-clause-lines
returns-clause-lines g c = λ plan m device run has resolved is_run n. line_at plan m device run has resolved is_run n
