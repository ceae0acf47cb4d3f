-- One piece after the other.
use Rattle.wdf_explain.proofs.Pushed.{then_pushed}
use Rattle.wdf_explain.proofs.standing.push_holder.Goals as goal

pub returns-in_ok-push_numbered-in-Some : goal.returns-in_ok-push_numbered-in-Some
returns-in_ok-push_numbered-in-Some c = rw c.in-Some.is (then_pushed _ _ _ _ _ _ c.in_ok-push_numbered-in-Some.ensures c.push_since.ensures)
