-- One register more.
use Rattle.std.proofs.Common.{add-one, refl, sym, ◌∙◌}
use Rattle.wdf_plan_index.proofs.Gathering.{kept, passed}
use Rattle.check_idle.specs.Timed.{opened_by}
use Rattle.check_idle.proofs.watches.open_all.Goals as goal
use Rattle.check_idle.proofs.watches.open_all.Goals.{in-Some+in_ok-push, in_default}

pub loop-k-preserved : goal.loop-k-preserved
loop-k-preserved c =
    let registers = c.args.plan.now.registers in
    elim c.match-opened_by.branch [
      | in-Some+in_ok-push w ↦ rw (w.all-is, w.in_ok-push.ensures.items, c.loop-k.invariant, add-one, kept (opened_by c.args.plan.now) registers c.loop-k.k c.register-info.result w.in-Some.watch c.register-info.ensures (sym c.opened_by.ensures ∙ w.in-Some.is)) refl
      | in_default w ↦ rw (w.all-is, c.loop-k.invariant, add-one, passed (opened_by c.args.plan.now) registers c.loop-k.k c.register-info.result c.register-info.ensures (sym c.opened_by.ensures ∙ w.in_default.is)) refl
    ]
