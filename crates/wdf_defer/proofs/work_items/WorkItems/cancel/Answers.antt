use Rattle.std.proofs.Common.{◌≡◌, true, sym, ◌∙◌, subst}
use Rattle.wdf_model.specs.parts.Deferred.WorkItems.{WorkItems, is_work_queued}
use Rattle.wdf_defer.proofs.QueuedWork.{is_member, member_within, cancelled, not_cancelled}
use Rattle.wdf_defer.proofs.work_items.WorkItems.cancel.Goals as goal

pub returns-then-not-is_work_queued-clause-done : goal.returns-then-not-is_work_queued-clause-done
returns-then-not-is_work_queued-clause-done c = not_cancelled c.args.self.now c.args.o.0 (sym c.is_work_queued.ensures ∙ c.if-not-is_work_queued.true)

pub put-requires : goal.put-requires
put-requires c =
    let P : WorkItems → Type 0 = λ W. is_work_queued W c.args.o.0 ≡ true in
    let queued = subst P (sym c.self.view_is) (sym c.is_work_queued.ensures ∙ c.if-not-is_work_queued.false) in
    member_within c.args.o.0 c.self.inside.queued (is_member c.args.o.0 c.self.inside.queued ∙ queued)

pub returns-clause-done : goal.returns-clause-done
returns-clause-done c =
    let P : WorkItems → Type 0 = λ W. is_work_queued W c.args.o.0 ≡ true in
    let queued = subst P (sym c.self.view_is) (sym c.is_work_queued.ensures ∙ c.if-not-is_work_queued.false) in
    let within = member_within c.args.o.0 c.self.inside.queued (is_member c.args.o.0 c.self.inside.queued ∙ queued) in
    rw c.put.ensures (cancelled c.args.self.now c.args.o.0 c.self.inside.queued c.self.view_is within)
