-- The actions so far are those with `when` and the first ones with `at`.
use Rattle.std.proofs.Common.{◌≡◌, fold, take}
use Rattle.std.specs.List.{filter_map}
use Rattle.wdf_base.specs.Plan.{posts_of}
use Rattle.wdf_model.specs.agents.Device.{among, at_action, when_action}
use Rattle.wdf_dev.proofs.device_lines.actions_of.Given as goal

abbrev pub invariant-loop-k : goal.invariant-loop-k
invariant-loop-k l = l.actions.items ≡ fold among (filter_map (when_action l.plan l.fn.device.0) l.plan.whens) (filter_map at_action (take l.k (posts_of l.plan l.agent)))
