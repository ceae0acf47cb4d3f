-- The clause is the lemma on what the stack manager posts.
use Rattle.law_stack.proofs.Ordered.{order_at}
use Rattle.law_stack.proofs.stacks_come_up_and_go_down_in_order.Goals as goal

pub returns : goal.returns
returns g c = λ plan m run k e is resolved is_run at. order_at plan m is resolved run is_run k e at
