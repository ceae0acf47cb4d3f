-- The queues are declared.
use Rattle.std.proofs.Common.{◌≤◌, length, subst, sym}
use Rattle.std.specs.List.{All}
use Rattle.wdf_plan_index.proofs.Walking.{queues_declared}
use Rattle.wdf_plan_index.proofs.indexed.IndexedPlan.queues_of.Goals as goal

pub returns-clause-declared : goal.returns-clause-declared
returns-clause-declared c = subst (All (λ q. q ≤ length c.args.self.now.declared)) (sym c.belongings.ensures) (queues_declared c.args.self.now c.args.device.0)
