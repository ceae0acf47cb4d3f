-- The clause is the lemma.
use Rattle.law_free_stops.proofs.Alone.{locks_apart}
use Rattle.law_free_stops.proofs.laws.free_locks_apart.Goals as goal

pub returns : goal.returns
returns g c = locks_apart
