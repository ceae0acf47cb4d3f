-- The clause is the lemma.
use Rattle.law_story.proofs.Stories.{spelled_text}
use Rattle.law_story.proofs.scenes_of_texts_are_spelled.Goals as goal

pub returns : goal.returns
returns c = spelled_text
