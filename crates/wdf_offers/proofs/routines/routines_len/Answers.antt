-- As many as are due, where one may start.
use Rattle.std.proofs.Common.{if◌then◌else◌, length, sym, ap, ◌∙◌}
use Rattle.wdf_target.specs.Finished.{finished_in}
use Rattle.wdf_offers.proofs.Herds.{else_none}
use Rattle.wdf_offers.proofs.DueRoutines.{routines_are}
use Rattle.wdf_offers.proofs.routines.routines_len.Goals as goal
use Rattle.wdf_offers.proofs.routines.routines_len.Goals.{else-len-gt0-via-then-len-gt0+else-begins_on, else-len-gt0-via-else-len-gt0}

pub returns-then-begins_on-clause-length : goal.returns-then-begins_on-clause-length
returns-then-begins_on-clause-length g c =
    let S = c.args.parts.now in
    (rw c.targets.ensures at c.finished_len-len.ensures)
    ∙ sym (routines_are c.args.plan.now g.A.Agent.meaning S c.requires.settled c.args.cpu.0 c.args.t.0
    ∙ ap (λ b. if b then length (finished_in S.targets c.args.t.0) else 0) (sym c.begins_on.ensures ∙ c.if-begins_on.true))

pub returns-else-len-gt0-clause-length : goal.returns-else-len-gt0-clause-length
returns-else-len-gt0-clause-length g c =
    let S = c.args.parts.now in
    sym (routines_are c.args.plan.now g.A.Agent.meaning S c.requires.settled c.args.cpu.0 c.args.t.0
    ∙ elim c.else-len-gt0.branch [
      | else-len-gt0-via-then-len-gt0+else-begins_on w ↦ ap (λ b. if b then length (finished_in S.targets c.args.t.0) else 0) (sym w.begins_on.ensures ∙ w.if-begins_on.false)
      | else-len-gt0-via-else-len-gt0 w ↦ else_none _ _ c.finished_len-len.result (sym (rw c.targets.ensures at c.finished_len-len.ensures)) w.if-len-gt0.false
    ])
