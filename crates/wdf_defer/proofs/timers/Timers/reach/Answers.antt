-- The tick is told, or none becomes due at it.
use Rattle.std.proofs.Common.{◌<◌, ◌≤◌, arith}
use Rattle.wdf_defer.proofs.Reaching.{least_stays, passed_over, room_kept}
use Rattle.wdf_defer.proofs.timers.Timers.reach.Goals as goal
use Rattle.wdf_defer.proofs.timers.Timers.reach.Goals.{then-self-now, else-self-now}

pub invariant_of-self : goal.invariant_of-self
invariant_of-self c =
    let i = c.self.inside in
    let early : i.seen ≤ c.args.now = omega (arith, c.if-now-self.false) in
    elim c.if-self-now.branch [
      | then-self-now w ↦
          let after = w.reach_all-self-inside.ensures.reached i.seen early c.self.invariant.reached in
          rw w.self-inside-is (record {
            room = room_kept i.queued i.reached w.reach_all-self-inside.new.reached c.self.invariant.room w.reach_all-self-inside.ensures.room;
            reached = after.0;
            least = after.1;
          })
      | else-self-now w ↦
          let above : c.args.now < i.least = omega (arith, w.if-self-now.false) in
          rw w.self-inside-is (record {
            room = c.self.invariant.room;
            reached = passed_over i.queued i.reached i.ticks i.floors i.seen c.args.now i.least c.self.invariant.room.objects early above c.self.invariant.least c.self.invariant.reached;
            least = least_stays i.queued i.reached i.ticks i.floors i.seen c.args.now i.least c.self.invariant.room.objects early above c.self.invariant.least;
          })
    ]
