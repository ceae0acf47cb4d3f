-- The actions at smaller places are as they are after the access.
use Rattle.std.proofs.Common.{◌≡◌}
use Rattle.wdf_model.specs.agents.Device.{set_off}
use Rattle.wdf_dev.proofs.Mapping.{changed_to}
use Rattle.wdf_dev.proofs.device.set_off_all.Given as goal

abbrev pub invariant-loop-at : goal.invariant-loop-at
invariant-loop-at l = l.actions ≡ changed_to (set_off l.access l.k l.now) l.at l.fn.actions
