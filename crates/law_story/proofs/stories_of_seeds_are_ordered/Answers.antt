-- The clause is the lemma.
use Rattle.law_story.proofs.Seeds.{tells_seed}
use Rattle.law_story.proofs.stories_of_seeds_are_ordered.Goals as goal

pub returns : goal.returns
returns c = tells_seed
