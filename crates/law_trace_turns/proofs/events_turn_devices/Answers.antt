-- The clause is the lemma on each place.
use Rattle.law_trace_turns.proofs.Places.{turned_at}
use Rattle.law_trace_turns.proofs.events_turn_devices.Goals as goal

pub returns : goal.returns
returns g c = λ plan m run n e resolved is_run at. turned_at plan m run resolved is_run n e at
