-- The clause is the lemma.
use Rattle.law_free_stops.proofs.FreeStops.{stops_wait}
use Rattle.law_free_stops.proofs.laws.free_stops_wait.Goals as goal

pub returns : goal.returns
returns g c = stops_wait
