-- The event may come.
use Rattle.wdf_core.proofs.machine.Core.apply.Goals as goal

pub take-requires : goal.take-requires
take-requires g c = (c.args.k, c.ready_at-event.ensures)

pub returns-clause-journal : goal.returns-clause-journal
returns-clause-journal g c = (c.ready_at-event.result, c.ready_at-event.ensures, c.take.ensures.journal)
