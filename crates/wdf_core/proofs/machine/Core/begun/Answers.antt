-- What the core keeps holds of no events.
use Rattle.std.proofs.Common.{refl}
use Rattle.wdf_core.proofs.Keeping.{unknown_kept}
use Rattle.wdf_core.proofs.machine.Core.begun.Goals as goal

pub invariant_of-result : goal.invariant_of-result
invariant_of-result g c = record { way = rw c.requires.empty c.requires.under_way; counts = unknown_kept g.A.Agent.meaning c.args.plan c.args.parts c.args.room.groups c.args.room.counts c.requires.counts }

pub returns-clause-plan : goal.returns-clause-plan
returns-clause-plan g c = refl

pub returns-clause-journal : goal.returns-clause-journal
returns-clause-journal g c = c.requires.empty
