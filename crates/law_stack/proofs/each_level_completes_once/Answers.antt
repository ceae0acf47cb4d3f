-- The clause is the lemma on devices that end.
use Rattle.law_stack.proofs.Levels.{once_where_destroyed}
use Rattle.law_stack.proofs.each_level_completes_once.Goals as goal

pub returns : goal.returns
returns g c = λ plan m run r x j d is_run down at early end. once_where_destroyed plan m run is_run r x j d down at early end
