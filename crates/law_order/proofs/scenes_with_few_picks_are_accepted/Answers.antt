-- The clause is the lemma.
use Rattle.law_order.proofs.Order.{scene_accepted}
use Rattle.law_order.proofs.scenes_with_few_picks_are_accepted.Goals as goal

pub returns : goal.returns
returns c = scene_accepted
