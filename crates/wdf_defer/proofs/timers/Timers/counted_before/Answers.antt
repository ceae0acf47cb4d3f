-- One more id is counted, or passed over.
use Rattle.std.proofs.Common.{sym, ◌∙◌, arith}
use Rattle.wdf_model.specs.parts.Deferred.Timers.{timer_due}
use Rattle.wdf_defer.proofs.TimersOfSet.{none_counted, one_counted}
use Rattle.wdf_defer.proofs.timers.Timers.counted_before.Goals as goal
use Rattle.wdf_defer.proofs.timers.Timers.counted_before.Goals.{then-timer_due, else-timer_due}

pub loop-id-preserved : goal.loop-id-preserved
loop-id-preserved c =
    let few = c.loop-id.invariant.few in
    let below = c.loop-id-test.true in
    elim c.if-timer_due.branch [
      | then-timer_due w ↦
          rw w.count-is (record {
            counted = one_counted (λ o. timer_due c.args.self.now o c.args.now) c.loop-id.id c.args.o.0 c.loop-id.count _ below (sym c.timer_due.ensures ∙ w.if-timer_due.true) c.loop-id.invariant.counted;
            few = omega arith;
          })
      | else-timer_due w ↦
          rw w.count-is (record {
            counted = none_counted (λ o. timer_due c.args.self.now o c.args.now) c.loop-id.id c.args.o.0 c.loop-id.count _ below (sym c.timer_due.ensures ∙ w.if-timer_due.false) c.loop-id.invariant.counted;
            few = omega arith;
          })
    ]
