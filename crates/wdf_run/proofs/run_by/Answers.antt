-- The event that is applied is the one that the source picks for this turn.
use Rattle.std.proofs.Common.{◌<◌, ◌%◌, length, refl, ap, ◌∙◌}
use Rattle.wdf_model.specs.rules.Ready.{ready}
use Rattle.wdf_run.proofs.Order.{run_opens, run_goes_on}
use Rattle.wdf_run.proofs.run_by.Goals as goal

pub turns-init : goal.turns-init
turns-init g c = (refl, run_opens (ready c.args.core.now.plan g.A.Agent.meaning) _ _ c.args.core.now.journal)

pub turns-preserved : goal.turns-preserved
turns-preserved g c =
    let same = c.turns.invariant.0 in
    let yes = c.if-not-go_by.false in
    let taken = c.go_by.ensures.taken yes in
    let room : length c.turns.core.journal < c.args.core.now.plan.limit = rw same at (c.go_by.ensures.room yes) in
    let place = ap (λ p. p % length (ready c.args.core.now.plan g.A.Agent.meaning c.turns.core.journal)) c.next_pick.ensures.value in
    let here = rw same at taken.1 in (
      c.go_by.ensures.plan ∙ same,
      rw taken.2
          (run_goes_on (ready c.args.core.now.plan g.A.Agent.meaning) _ _ _ _ c.args.core.now.journal c.turns.core.journal taken.0 _
          c.turns.invariant.1 room place here c.next_pick.ensures.later),
    )

pub returns-then-not-go_by-clause-picked : goal.returns-then-not-go_by-clause-picked
returns-then-not-go_by-clause-picked g c = λ picks has.
    let so_far = c.turns.invariant.1.so_far picks has in
    let over = c.go_by.ensures.over c.if-not-go_by.true in
    rw over.1 (record { begins = so_far.begins; picked = so_far.picked; ends = rw c.turns.invariant.0 at over.0 })
