-- The clause is the lemma.
use Rattle.law_moved.proofs.Headers.{moved_limit}
use Rattle.law_moved.proofs.moved_scenes_have_the_same_limit.Goals as goal

pub returns : goal.returns
returns c = moved_limit
