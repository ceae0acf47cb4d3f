-- The clause is the lemma on parked frames.
use Rattle.law_stuck_named_if.proofs.Parked.{parking_at_each}
use Rattle.law_stuck_named_if.proofs.parked_frames_wait.Goals as goal

pub returns : goal.returns
returns g c = λ plan m run is_run n f h. (parking_at_each plan m run is_run n).waits f h
