-- One id more, which has a group that can have places, or not.
use Rattle.std.proofs.Common.{sym, ◌∙◌}
use Rattle.wdf_ready.proofs.Grouping.{none_yet, not_startable, one_startable}
use Rattle.wdf_ready.proofs.groups.startable.Goals as goal
use Rattle.wdf_ready.proofs.groups.startable.Goals.{then-is_startable+in_ok-push, else-is_startable}

pub loop-k-init : goal.loop-k-init
loop-k-init c = c.new-ids.ensures.items ∙ none_yet c.args.plan.now c.args.rank

pub loop-k-preserved : goal.loop-k-preserved
loop-k-preserved c =
    elim c.if-is_startable.branch [
      | then-is_startable+in_ok-push w ↦ rw (w.ids-is, w.in_ok-push.ensures.items) (one_startable c.args.plan.now c.args.rank c.loop-k.k c.loop-k.ids.items c.loop-k.invariant (sym c.is_startable.ensures ∙ w.if-is_startable.true))
      | else-is_startable w ↦ rw (w.ids-is) (not_startable c.args.plan.now c.args.rank c.loop-k.k c.loop-k.ids.items c.loop-k.invariant (sym c.is_startable.ensures ∙ w.if-is_startable.false))
    ]
