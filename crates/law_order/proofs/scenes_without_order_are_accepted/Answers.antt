-- The clause is the lemma.
use Rattle.law_order.proofs.Order.{bare_accepted}
use Rattle.law_order.proofs.scenes_without_order_are_accepted.Goals as goal

pub returns : goal.returns
returns c = bare_accepted
