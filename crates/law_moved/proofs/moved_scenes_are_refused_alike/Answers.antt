-- The clause is the lemma.
use Rattle.law_moved.proofs.Refusals.{moved_alike}
use Rattle.law_moved.proofs.moved_scenes_are_refused_alike.Goals as goal

pub returns : goal.returns
returns c = moved_alike
