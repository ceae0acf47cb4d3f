-- The declared children, and one event more.
use Rattle.std.proofs.Common.{ap, ◌∙◌, arith}
use Rattle.check_past.specs.Kin.{Whole}
use Rattle.check_past.proofs.Groups.{none_told, one_child}
use Rattle.check_past.proofs.kin.Kin.read_children.Goals as goal

pub loop-event-init : goal.loop-event-init
loop-event-init c = λ o. c.in_ok-children.ensures o ∙ none_told c.args.self.now.plan c.args.self.now.all o

pub loop-event-preserved : goal.loop-event-preserved
loop-event-preserved c = λ o.
    one_child c.args.self.now.plan c.args.self.now.all c.self.inside.all.now _ o c.loop-event.event-index _ _ (ap (λ (w : Whole). w.all) c.self.view_is) (omega arith) (c.loop-event.invariant o) (c.in_ok-add_child.ensures o)
