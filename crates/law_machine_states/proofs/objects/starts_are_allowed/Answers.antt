-- Each clause is a part of what a start of a run was allowed by.
use Rattle.law_machine_states.proofs.Starting.{allowed_at}
use Rattle.law_machine_states.proofs.objects.starts_are_allowed.Goals as goal

pub returns-clause-due : goal.returns-clause-due
returns-clause-due g c = λ plan m run is_run n cpu callback o r at. (allowed_at plan m run is_run n cpu callback o r at).due

pub returns-clause-declared : goal.returns-clause-declared
returns-clause-declared g c = λ plan m run is_run n cpu callback o r at. (allowed_at plan m run is_run n cpu callback o r at).declared

pub returns-clause-life : goal.returns-clause-life
returns-clause-life g c = λ plan m run is_run n cpu callback o r at. (allowed_at plan m run is_run n cpu callback o r at).life

pub returns-clause-level : goal.returns-clause-level
returns-clause-level g c = λ plan m run is_run n cpu callback o r at. (allowed_at plan m run is_run n cpu callback o r at).level

pub returns-clause-lock : goal.returns-clause-lock
returns-clause-lock g c = λ plan m run is_run n cpu callback o r at. (allowed_at plan m run is_run n cpu callback o r at).lock
