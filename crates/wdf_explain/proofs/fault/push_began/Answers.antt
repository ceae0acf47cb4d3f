-- One piece after the other.
use Rattle.wdf_explain.specs.Stories.{began_text}
use Rattle.wdf_explain.proofs.Pushed.{then_pushed}
use Rattle.wdf_explain.proofs.fault.push_began.Goals as goal

pub returns : goal.returns
unfolding began_text
returns c = then_pushed _ _ _ _ _ _ c.in_ok-push_number.ensures c.push_numbered.ensures
