-- The clause is the lemma.
use Rattle.law_moved.proofs.Plans.{moved_plan}
use Rattle.law_moved.proofs.moved_scenes_have_the_same_plan.Goals as goal

pub returns : goal.returns
returns c = moved_plan
