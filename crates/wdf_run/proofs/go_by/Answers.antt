-- The pick 0 names the first event.
use Rattle.std.proofs.Common.{◌≡◌, length, arith}
use Rattle.std.proofs.Math.Nat.{zero-mod}
use Rattle.wdf_model.specs.rules.Ready.{ready}
use Rattle.wdf_run.proofs.go_by.Goals as goal

pub returns-then-pick-eq0-clause-taken : goal.returns-then-pick-eq0-clause-taken
returns-then-pick-eq0-clause-taken g c = λ yes.
    let first : c.args.pick ≡ 0 = omega (arith, c.if-pick-eq0.true) in
    let taken = c.apply_first.ensures.taken yes in
    (taken.0, rw (first, zero-mod (length (ready c.args.core.now.plan g.A.Agent.meaning c.args.core.now.journal))) taken.1, taken.2)
