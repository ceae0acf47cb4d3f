-- There is room for as many events as a run of the plan may have, and nothing is counted.
use Rattle.std.proofs.Common.{◌≡◌, length, ap, subst, arith}
use Rattle.wdf_base.specs.declared.plan.Plan.{Plan}
use Rattle.wdf_ready.specs.Counts.{Unknown}
use Rattle.wdf_core.proofs.machine.Room.make.Goals as goal

pub returns-clause-space : goal.returns-clause-space
returns-clause-space c = omega (arith, c.in_ok-journal.ensures.exact, ap (λ (P : Plan). P.limit) c.plan.ensures)

pub returns-clause-counts : goal.returns-clause-counts
returns-clause-counts c =
    let same : c.len.result ≡ length c.in_ok-groups.groups.blocks = omega (arith, c.len.ensures) in
    subst (λ n. Unknown n c.in_ok-counts.counts) same c.in_ok-counts.ensures
