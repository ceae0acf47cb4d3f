-- The reached one at the place.
use Rattle.std.proofs.Common.{◌≡◌, ◌∙◌, ap, slice_get, subst, arith}
use Rattle.wdf_model.specs.parts.Deferred.Timers.{Timers}
use Rattle.wdf_defer.specs.Timers.{AreTimersInOrder, due_ids}
use Rattle.wdf_defer.proofs.TimersOfSet.{due_members, ordered}
use Rattle.wdf_defer.proofs.timers.Timers.nth_due.Goals as goal

pub returns-then-self-now-clause-rising : goal.returns-then-self-now-clause-rising
returns-then-self-now-clause-rising c = subst (λ (T : Timers). AreTimersInOrder T) c.self.view_is (ordered c.self.inside.queued c.self.inside.ticks c.self.invariant.room.objects)

pub returns-clause-rising : goal.returns-clause-rising
returns-clause-rising c = subst (λ (T : Timers). AreTimersInOrder T) c.self.view_is (ordered c.self.inside.queued c.self.inside.ticks c.self.invariant.room.objects)

pub returns-clause-item : goal.returns-clause-item
returns-clause-item c =
    let i = c.self.inside in
    let same : i.seen ≡ c.args.now = omega (arith, c.if-self-now.false) in
    c.object_at.ensures ∙ c.at.ensures
    ∙ ap (λ xs. slice_get xs c.args.k) (due_members i.queued i.reached i.ticks i.floors i.seen c.self.invariant.room c.self.invariant.reached)
    ∙ ap (λ (T : Timers). slice_get (due_ids T i.seen) c.args.k) c.self.view_is
    ∙ ap (λ n. slice_get (due_ids c.args.self.now n) c.args.k) same
