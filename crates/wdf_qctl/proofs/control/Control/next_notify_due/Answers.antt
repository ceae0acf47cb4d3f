-- The members are the queues whose notification is due.
use Rattle.std.proofs.Common.{MatchOption, subst}
use Rattle.wdf_model.specs.parts.Control.{Control, notify_due}
use Rattle.wdf_sets.specs.Members.{is_in}
use Rattle.wdf_sets.specs.Nexts.{IsNext, NoneFrom}
use Rattle.wdf_sets.proofs.Nexts.{found_also}
use Rattle.wdf_qctl.proofs.Closing.{held}
use Rattle.wdf_qctl.proofs.Due.{due_is}
use Rattle.wdf_qctl.proofs.control.Control.next_notify_due.Goals as goal

pub returns : goal.returns
returns c =
    let kept = c.self.inside.kept.items in
    let closed = c.self.inside.closed.items in
    let bits = c.self.inside.due in
    subst (λ (M : Control). MatchOption c.next.result (NoneFrom (notify_due M) c.args.from c.args.end) (λ id. IsNext (notify_due M) c.args.from c.args.end id)) c.self.view_is
    (found_also (λ q. is_in q bits) (notify_due (held kept closed)) c.args.from c.args.end (λ q above below. due_is kept closed bits q c.self.invariant.due) (λ q. q) c.next.result c.next.ensures)
