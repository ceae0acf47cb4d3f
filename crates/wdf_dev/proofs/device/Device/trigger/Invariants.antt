-- The actions at smaller places took effect where they were triggered.
use Rattle.std.proofs.Common.{◌≡◌, fold, take}
use Rattle.wdf_model.specs.agents.Device.{at_once}
use Rattle.wdf_dev.proofs.device.Device.trigger.Given as goal

abbrev pub invariant-loop-at : goal.invariant-loop-at
invariant-loop-at l = l.self ≡ fold (at_once l.access l.k) l.fn.self (take l.at l.fn.self.actions)
