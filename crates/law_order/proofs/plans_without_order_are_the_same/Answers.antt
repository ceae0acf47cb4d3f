-- The clause is the lemma.
use Rattle.law_order.proofs.Order.{plan_without}
use Rattle.law_order.proofs.plans_without_order_are_the_same.Goals as goal

pub returns : goal.returns
returns c = plan_without
