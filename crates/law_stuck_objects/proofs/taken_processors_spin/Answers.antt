-- The clause is the lemma on processors.
use Rattle.law_stuck_objects.proofs.Spinning.{taken_processors_spin}
use Rattle.law_stuck_objects.proofs.taken_processors_spin.Goals as goal

pub returns : goal.returns
returns g c = λ plan m run is_run ends level cpu low h. taken_processors_spin plan m run is_run ends level cpu low h
