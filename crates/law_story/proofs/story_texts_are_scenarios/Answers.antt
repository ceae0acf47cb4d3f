-- The clause is the lemma.
use Rattle.law_story.proofs.Stories.{story_scenario}
use Rattle.law_story.proofs.story_texts_are_scenarios.Goals as goal

pub returns : goal.returns
returns c = story_scenario
