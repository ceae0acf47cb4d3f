-- One line more.
use Rattle.std.proofs.Common.{add-one, refl, sym, ◌∙◌}
use Rattle.wdf_model.specs.agents.Device.{when_action}
use Rattle.wdf_plan_index.proofs.Gathering.{kept, passed}
use Rattle.wdf_dev.proofs.device_lines.when_actions.Goals as goal
use Rattle.wdf_dev.proofs.device_lines.when_actions.Goals.{in-Some+in_ok-push, in_default}

pub loop-k-preserved : goal.loop-k-preserved
loop-k-preserved c = elim c.match-when_action.branch [
  | in-Some+in_ok-push w ↦ rw (w.actions-is, w.in_ok-push.ensures.items, c.loop-k.invariant, add-one, kept (when_action c.args.plan.now c.args.device.0) c.args.plan.now.whens c.loop-k.k c.when.result w.in-Some.action c.when.ensures (sym c.when_action.ensures ∙ w.in-Some.is)) refl
  | in_default w ↦ rw (w.actions-is, c.loop-k.invariant, add-one, passed (when_action c.args.plan.now c.args.device.0) c.args.plan.now.whens c.loop-k.k c.when.result c.when.ensures (sym c.when_action.ensures ∙ w.in_default.is)) refl
]
