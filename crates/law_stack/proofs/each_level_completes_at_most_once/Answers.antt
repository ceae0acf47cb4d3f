-- The clause is the lemma on completions.
use Rattle.law_stack.proofs.Levels.{once_at_most}
use Rattle.law_stack.proofs.each_level_completes_at_most_once.Goals as goal

pub returns : goal.returns
returns g c = λ plan m run n r x is_run below. once_at_most plan m run is_run x
