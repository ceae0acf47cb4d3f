-- The devices before the id have begun anew, and the others are as they were.
use Rattle.wdf_declared.proofs.Ids.{IsAnew}
use Rattle.wdf_pnp.specs.Opening.{sequence_at}
use Rattle.wdf_pnp.proofs.pnp.begin_all.Given as goal

abbrev pub invariant-loop-id : goal.invariant-loop-id
invariant-loop-id l = IsAnew (sequence_at l.plan) l.initial.devices.items l.devices.items l.id
