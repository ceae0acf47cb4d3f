-- No timer is queued.
use Rattle.std.proofs.Common.{arith}
use Rattle.wdf_defer.proofs.TimersOfSet.{sound_none}
use Rattle.wdf_defer.proofs.timers.Timers.begin_again.Goals as goal

pub invariant_of-self : goal.invariant_of-self
invariant_of-self c =
    let queued = c.self.invariant.room.queued_room in
    let reached = c.self.invariant.room.reached_room in
    sound_none c.clear_set.new.set c.clear_set-2.new.set c.clear.new.self c.clear-2.new.self 18446744073709551615 c.clear_set.ensures.members (omega (arith, c.clear_set.ensures.room)) c.clear_set-2.ensures.members (omega (arith, c.clear_set-2.ensures.room))
