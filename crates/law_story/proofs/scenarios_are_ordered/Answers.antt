-- The clause is the lemma.
use Rattle.law_story.proofs.Stories.{ordered_by}
use Rattle.law_story.proofs.scenarios_are_ordered.Goals as goal

pub returns : goal.returns
returns c = ordered_by
