-- The timer is queued with its tick; it is among the reached, or has a floor.
use Rattle.std.proofs.Common.{◌/◌, ◌∙◌, min, ap, arith}
use Rattle.wdf_model.specs.Tables.{put}
use Rattle.wdf_model.specs.parts.Deferred.Timers.{Timers, is_timer_queued}
use Rattle.wdf_maps.specs.Places.{with_entry}
use Rattle.wdf_defer.specs.Floors.{NEVER, floor_of}
use Rattle.wdf_defer.specs.Ticks.{timer_id}
use Rattle.wdf_defer.proofs.TimersOfSet.{floor_lowered, least_put, queued_is, queued_put, reached_put, room_put}
use Rattle.wdf_defer.proofs.timers.Timers.put.Goals as goal

pub invariant_of-self : goal.invariant_of-self
invariant_of-self c =
    let i = c.self.inside in
    let o = c.args.timed.timer.0 in
    let tick = c.args.timed.tick in
    let lowered = floor_lowered i.floors o tick in
    rw (c.put.ensures, c.put-2.ensures, c.put-3.ensures, c.put-then-self-timed.ensures, c.min-self-inside.ensures, c.min.ensures, c.of-floor.ensures) (record {
      room = room_put i.queued i.reached i.ticks i.floors i.seen c.self.invariant.room c.self.invariant.reached o tick c.requires;
      reached = reached_put i.queued i.reached i.ticks i.floors i.seen c.self.invariant.room c.self.invariant.reached o tick c.requires (put NEVER i.floors (o / 64) (min (floor_of i.floors o) tick)) lowered.0 (λ late. lowered.1);
      least = least_put i.queued i.reached i.ticks i.floors i.seen c.self.invariant.room c.self.invariant.reached o tick c.requires i.least (min i.least tick) c.self.invariant.least (omega arith) (λ late. omega arith);
    })

pub invariant_of-self-else-self-timed : goal.invariant_of-self-else-self-timed
invariant_of-self-else-self-timed c =
    let i = c.self.inside in
    let o = c.args.timed.timer.0 in
    let tick = c.args.timed.tick in
    let early = c.if-self-timed.false in
    rw (c.put.ensures, c.put-2.ensures, c.put-3.ensures) (record {
      room = room_put i.queued i.reached i.ticks i.floors i.seen c.self.invariant.room c.self.invariant.reached o tick c.requires;
      reached = reached_put i.queued i.reached i.ticks i.floors i.seen c.self.invariant.room c.self.invariant.reached o tick c.requires i.floors (λ x. omega arith) (λ late. absurd (omega arith));
      least = least_put i.queued i.reached i.ticks i.floors i.seen c.self.invariant.room c.self.invariant.reached o tick c.requires i.least i.least c.self.invariant.least (omega arith) (λ late. absurd (omega arith));
    })

pub returns-then-self-timed-clause-answer : goal.returns-then-self-timed-clause-answer
returns-then-self-timed-clause-answer c =
    c.contains-was_queued.ensures ∙ queued_is c.self.inside.queued c.self.inside.ticks c.args.timed.timer.0 ∙ ap (λ (T : Timers). is_timer_queued T c.args.timed.timer.0) c.self.view_is

pub returns-else-self-timed-clause-answer : goal.returns-else-self-timed-clause-answer
returns-else-self-timed-clause-answer c =
    c.contains-was_queued.ensures ∙ queued_is c.self.inside.queued c.self.inside.ticks c.args.timed.timer.0 ∙ ap (λ (T : Timers). is_timer_queued T c.args.timed.timer.0) c.self.view_is

pub returns-then-self-timed-clause-done : goal.returns-then-self-timed-clause-done
returns-then-self-timed-clause-done c =
    let room = c.self.invariant.room.queued_room in
    let low = c.requires in
    rw (c.put.ensures, c.put-2.ensures)
    (queued_put c.self.inside.queued c.self.inside.ticks c.args.timed (omega arith) ∙ ap (λ (T : Timers). with_entry timer_id c.args.timed T.queued) c.self.view_is)

pub returns-else-self-timed-clause-done : goal.returns-else-self-timed-clause-done
returns-else-self-timed-clause-done c =
    let room = c.self.invariant.room.queued_room in
    let low = c.requires in
    rw (c.put.ensures, c.put-2.ensures)
    (queued_put c.self.inside.queued c.self.inside.ticks c.args.timed (omega arith) ∙ ap (λ (T : Timers). with_entry timer_id c.args.timed T.queued) c.self.view_is)
