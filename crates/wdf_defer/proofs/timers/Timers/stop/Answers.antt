-- The timer is neither queued nor reached.
use Rattle.std.proofs.Common.{◌≡◌, ◌∙◌, sym, ap, subst, arith}
use Rattle.wdf_model.specs.parts.Deferred.Timers.{Timers, is_timer_queued, stop}
use Rattle.wdf_defer.proofs.TimersOfSet.{least_stopped, none_stopped, queued_is, queued_stopped, reached_stopped, room_stopped, timed_none}
use Rattle.wdf_defer.proofs.timers.Timers.stop.Goals as goal

pub invariant_of-self : goal.invariant_of-self
invariant_of-self c =
    let i = c.self.inside in
    let o = c.args.o.0 in
    let low = c.self.invariant.room.objects o (sym c.contains-was_queued.ensures ∙ c.if-was_queued.true) in
    rw (c.put.ensures, c.put-then-was_queued.ensures) (record {
      room = room_stopped i.queued i.reached i.ticks i.floors i.seen c.self.invariant.room c.self.invariant.reached o low;
      reached = reached_stopped i.queued i.reached i.ticks i.floors i.seen c.self.invariant.room c.self.invariant.reached o low;
      least = least_stopped i.queued i.reached i.ticks i.floors i.seen c.self.invariant.room c.self.invariant.reached o low i.least c.self.invariant.least;
    })

pub returns-then-was_queued-clause-answer : goal.returns-then-was_queued-clause-answer
returns-then-was_queued-clause-answer c =
    c.contains-was_queued.ensures ∙ queued_is c.self.inside.queued c.self.inside.ticks c.args.o.0 ∙ ap (λ (T : Timers). is_timer_queued T c.args.o.0) c.self.view_is

pub returns-else-was_queued-clause-answer : goal.returns-else-was_queued-clause-answer
returns-else-was_queued-clause-answer c =
    c.contains-was_queued.ensures ∙ queued_is c.self.inside.queued c.self.inside.ticks c.args.o.0 ∙ ap (λ (T : Timers). is_timer_queued T c.args.o.0) c.self.view_is

pub returns-then-was_queued-clause-done : goal.returns-then-was_queued-clause-done
returns-then-was_queued-clause-done c =
    let room = c.self.invariant.room.queued_room in
    let low = c.self.invariant.room.objects c.args.o.0 (sym c.contains-was_queued.ensures ∙ c.if-was_queued.true) in
    rw c.put.ensures (queued_stopped c.self.inside.queued c.self.inside.ticks c.args.o.0 (omega arith) ∙ ap (λ (T : Timers). stop T c.args.o.0) c.self.view_is)

pub returns-else-was_queued-clause-done : goal.returns-else-was_queued-clause-done
returns-else-was_queued-clause-done c =
    let P : Timers → Type 0 = λ T. T ≡ stop T c.args.o.0 in
    subst P c.self.view_is (none_stopped _ c.args.o.0 (timed_none c.self.inside.queued c.self.inside.ticks c.args.o.0 (sym c.contains-was_queued.ensures ∙ c.if-was_queued.false)))
