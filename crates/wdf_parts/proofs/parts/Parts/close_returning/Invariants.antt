-- The queues that are left come to all of them.
use Rattle.std.proofs.Common.{◌≡◌, filter, fold}
use Rattle.wdf_model.specs.Plans.{is_managed, managed_queues}
use Rattle.wdf_model.specs.rules.Deeds.{close_returning}
use Rattle.wdf_parts.proofs.parts.Parts.close_returning.Given as goal

abbrev pub invariant-loop-q : goal.invariant-loop-q
invariant-loop-q g l = fold close_returning l.self (filter (is_managed l.plan) l.q-iterator) ≡ fold close_returning l.fn.self (managed_queues l.plan l.fn.device.0)
