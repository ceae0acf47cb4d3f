-- One event more.
use Rattle.std.proofs.Common.{arith}
use Rattle.check_past.proofs.Telling.{one_event}
use Rattle.check_past.proofs.kin.read_told.Goals as goal

pub loop-event-preserved : goal.loop-event-preserved
loop-event-preserved c = λ o. one_event c.args.plan.now o c.args.all.now c.loop-event.event-index _ _ _ _ (omega arith) (c.loop-event.invariant o) c.told.ensures (c.in_ok-keep_told.ensures o)
