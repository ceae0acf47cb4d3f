-- The clause is the lemma.
use Rattle.law_seeds.proofs.Words.{same_words}
use Rattle.law_seeds.proofs.words_of_seeds_are_one.Goals as goal

pub returns : goal.returns
returns c = same_words
