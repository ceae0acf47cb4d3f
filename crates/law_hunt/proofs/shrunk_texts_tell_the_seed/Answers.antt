-- The clause is the lemma.
use Rattle.law_hunt.proofs.OfStories.{text_tells}
use Rattle.law_hunt.proofs.shrunk_texts_tell_the_seed.Goals as goal

pub returns : goal.returns
returns c = text_tells
