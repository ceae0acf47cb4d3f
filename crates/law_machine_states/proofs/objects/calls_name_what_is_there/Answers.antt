-- Each clause is a lemma on the calls of a run.
use Rattle.law_machine_states.proofs.Calling.{not_ended, nothing_cleaned_above, objects_at}
use Rattle.law_machine_states.proofs.objects.calls_name_what_is_there.Goals as goal

pub returns-clause-objects : goal.returns-clause-objects
returns-clause-objects g c = λ plan m run is_run n e call at is. objects_at plan m run is_run n e call at is

pub returns-clause-ended : goal.returns-clause-ended
returns-clause-ended g c = λ plan m run is_run n e call o at is named. not_ended plan m run is_run n e call o at is named

pub returns-clause-cleaned : goal.returns-clause-cleaned
returns-clause-cleaned g c = λ plan m run is_run n e call o at is named late. nothing_cleaned_above plan m run is_run n e call o at is named late
