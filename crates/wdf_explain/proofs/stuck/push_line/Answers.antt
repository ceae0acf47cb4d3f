-- One piece after the other.
use Rattle.wdf_explain.specs.Stories.{numbered_text}
use Rattle.wdf_explain.proofs.Pushed.{then_pushed}
use Rattle.wdf_explain.proofs.stuck.push_line.Goals as goal

pub returns : goal.returns
unfolding numbered_text
returns c = then_pushed _ _ _ _ _ _ c.in_ok-push_number.ensures c.push_wait_text.ensures
