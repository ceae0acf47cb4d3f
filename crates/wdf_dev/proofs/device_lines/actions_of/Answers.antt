-- One post more.
use Rattle.std.proofs.Common.{add-one, refl, sym, ◌∙◌}
use Rattle.wdf_base.specs.Plan.{posts_of}
use Rattle.wdf_model.specs.agents.Device.{at_action}
use Rattle.wdf_dev.proofs.Gathering.{fold_last}
use Rattle.wdf_plan_index.proofs.Gathering.{kept, passed}
use Rattle.wdf_dev.proofs.device_lines.actions_of.Goals as goal
use Rattle.wdf_dev.proofs.device_lines.actions_of.Goals.{in-Some+in_ok-put_among, in_default}

pub loop-k-preserved : goal.loop-k-preserved
loop-k-preserved c = elim c.match-at_action.branch [
  | in-Some+in_ok-put_among w ↦ rw (w.actions-is, w.in_ok-put_among.ensures, c.loop-k.invariant, add-one, kept at_action (posts_of c.args.plan.now c.args.agent) c.loop-k.k c.post.result w.in-Some.action c.post.ensures (sym c.at_action.ensures ∙ w.in-Some.is), fold_last) refl
  | in_default w ↦ rw (w.actions-is, c.loop-k.invariant, add-one, passed at_action (posts_of c.args.plan.now c.args.agent) c.loop-k.k c.post.result c.post.ensures (sym c.at_action.ensures ∙ w.in_default.is)) refl
]
