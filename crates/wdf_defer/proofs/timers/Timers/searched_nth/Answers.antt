-- The due timer that is looked for, or one more is passed.
use Rattle.std.proofs.Common.{◌≡◌, ◌-◌, suc, slice_get, sym, ap, ◌∙◌, arith}
use Rattle.wdf_defer.specs.Timers.{due_from}
use Rattle.wdf_defer.proofs.TimersOfSet.{due_here, none_further, not_here}
use Rattle.wdf_defer.proofs.timers.Timers.searched_nth.Goals as goal
use Rattle.wdf_defer.proofs.timers.Timers.searched_nth.Goals.{then-timer_due+else-left-eq0, else-timer_due}

pub returns-then-left-eq0 : goal.returns-then-left-eq0
returns-then-left-eq0 c =
    let here = due_here c.args.self.now c.args.now c.loop-id.id c.loop-id-test.true (sym c.timer_due.ensures ∙ c.if-timer_due.true) in
    sym (sym c.loop-id.invariant ∙ ap (λ n. slice_get (due_from c.args.self.now c.args.now c.loop-id.id) n) c.if-left-eq0.true ∙ ap (λ xs. slice_get xs 0) here)

pub loop-id-preserved : goal.loop-id-preserved
loop-id-preserved c =
    elim c.if-timer_due.branch [
      | then-timer_due+else-left-eq0 w ↦
          let here = due_here c.args.self.now c.args.now c.loop-id.id c.loop-id-test.true (sym c.timer_due.ensures ∙ w.if-timer_due.true) in
          let some = w.if-left-eq0.false in
          let more : c.loop-id.left ≡ suc (c.loop-id.left - 1) = omega arith in
          rw w.left-is
          (sym (ap (slice_get (due_from c.args.self.now c.args.now c.loop-id.id)) more ∙ ap (λ xs. slice_get xs (suc (c.loop-id.left - 1))) here) ∙ c.loop-id.invariant)
      | else-timer_due w ↦
          let off = not_here c.args.self.now c.args.now c.loop-id.id c.loop-id-test.true (sym c.timer_due.ensures ∙ w.if-timer_due.false) in
          rw w.left-is (ap (λ xs. slice_get xs c.loop-id.left) (sym off) ∙ c.loop-id.invariant)
    ]

pub returns : goal.returns
returns c =
    let none = none_further c.args.self.now c.args.now c.loop-id.id (omega (arith, c.loop-id-test.false)) in
    sym (sym c.loop-id.invariant ∙ ap (λ xs. slice_get xs c.loop-id.left) none)
