-- One piece after the other.
use Rattle.wdf_explain.specs.Stories.{place_text}
use Rattle.wdf_explain.proofs.Pushed.{then_pushed}
use Rattle.wdf_explain.proofs.fault.push_place.Goals as goal

pub returns : goal.returns
unfolding place_text
returns c = then_pushed _ _ _ _ _ _ (rw c.fault_bytes.ensures at c.in_ok-push.ensures) c.push_numbered.ensures
