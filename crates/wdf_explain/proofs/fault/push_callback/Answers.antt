-- One piece after the other.
use Rattle.wdf_explain.specs.Stories.{callback_text}
use Rattle.wdf_explain.proofs.Pushed.{then_pushed}
use Rattle.wdf_explain.proofs.fault.push_callback.Goals as goal

pub returns : goal.returns
unfolding callback_text
returns c = then_pushed _ _ _ _ _ _ (rw c.callback_bytes.ensures at c.in_ok-push.ensures) c.push_between.ensures
