-- What is left comes to all that was left.
use Rattle.std.proofs.Common.{◌≡◌, length}
use Rattle.wdf_plan_index.specs.Belongings.{ids_at}
use Rattle.wdf_plan_index.proofs.belongings.BelongingsIterator.next.Given as goal

abbrev pub invariant-look : goal.invariant-look
invariant-look l = ids_at l.self-inside.sort l.self-inside.plan.now l.self-inside.device.0 l.self-inside.places ≡ l.fn.self

abbrev pub decreases-look : goal.decreases-look
decreases-look l = length l.self-inside.places
