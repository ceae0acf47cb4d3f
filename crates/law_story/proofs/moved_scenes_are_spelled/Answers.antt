-- The clause is the lemma.
use Rattle.law_story.proofs.Moved.{spelled_moved}
use Rattle.law_story.proofs.moved_scenes_are_spelled.Goals as goal

pub returns : goal.returns
returns c = spelled_moved
