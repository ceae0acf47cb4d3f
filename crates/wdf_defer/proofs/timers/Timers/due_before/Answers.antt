-- So many of the reached ones have a lesser id.
use Rattle.std.proofs.Common.{◌≡◌, ◌∙◌, ap, length, filter, subst, arith}
use Rattle.std.specs.List.{range_with_len}
use Rattle.wdf_model.specs.parts.Deferred.Timers.{Timers, timer_due}
use Rattle.wdf_defer.specs.Timers.{AreTimersInOrder}
use Rattle.wdf_defer.proofs.TimersOfSet.{due_counted, ordered}
use Rattle.wdf_defer.proofs.timers.Timers.due_before.Goals as goal

pub returns-then-self-now-clause-rising : goal.returns-then-self-now-clause-rising
returns-then-self-now-clause-rising c = subst (λ (T : Timers). AreTimersInOrder T) c.self.view_is (ordered c.self.inside.queued c.self.inside.ticks c.self.invariant.room.objects)

pub returns-clause-rising : goal.returns-clause-rising
returns-clause-rising c = subst (λ (T : Timers). AreTimersInOrder T) c.self.view_is (ordered c.self.inside.queued c.self.inside.ticks c.self.invariant.room.objects)

pub returns-clause-count : goal.returns-clause-count
returns-clause-count c =
    let i = c.self.inside in
    let same : i.seen ≡ c.args.now = omega (arith, c.if-self-now.false) in
    c.before-2.ensures ∙ due_counted i.queued i.reached i.ticks i.floors i.seen c.self.invariant.room c.self.invariant.reached c.args.o.0
    ∙ ap (λ (T : Timers). length (filter (λ x. timer_due T x i.seen) (range_with_len 0 c.args.o.0))) c.self.view_is
    ∙ ap (λ n. length (filter (λ x. timer_due c.args.self.now x n) (range_with_len 0 c.args.o.0))) same
