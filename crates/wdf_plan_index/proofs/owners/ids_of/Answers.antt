-- One declared object more.
use Rattle.std.proofs.Common.{sym, ◌∙◌}
use Rattle.wdf_plan_index.proofs.Owning.{grown, unchanged}
use Rattle.wdf_plan_index.proofs.owners.ids_of.Goals as goal
use Rattle.wdf_plan_index.proofs.owners.ids_of.Goals.{then-is_of+in_ok-push, else-is_of}

pub loop-k-preserved : goal.loop-k-preserved
loop-k-preserved c = elim c.if-is_of.branch [
  | then-is_of+in_ok-push w ↦ rw (w.ids-is, w.in_ok-push.ensures.items) (grown c.args.owner c.args.plan.now c.loop-k.k c.declared.result c.loop-k.ids.items c.declared.ensures (sym c.is_of.ensures ∙ w.if-is_of.true) c.loop-k.invariant.0 c.loop-k.invariant.1)
  | else-is_of w ↦ rw (w.ids-is) (unchanged c.args.owner c.args.plan.now c.loop-k.k c.declared.result c.loop-k.ids.items c.declared.ensures (sym c.is_of.ensures ∙ w.if-is_of.false) c.loop-k.invariant.0 c.loop-k.invariant.1)
]
