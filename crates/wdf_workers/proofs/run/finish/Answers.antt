-- The run goes on from the state's journal, and has ended.
use Rattle.std.proofs.Common.{sym}
use Rattle.wdf_run.proofs.Endings.{has_ended}
use Rattle.wdf_workers.proofs.run.finish.Goals as goal

pub returns-clause-journal : goal.returns-clause-journal
returns-clause-journal g c = rw (← c.into_inner-core.ensures) (c.run_order.ensures.picked.begins.0, sym c.run_order.ensures.picked.begins.1)

pub returns-clause-ended : goal.returns-clause-ended
returns-clause-ended g c = rw (← c.into_inner-core.ensures) (has_ended c.into_inner-core.result.plan g.A.Agent.meaning _ c.run_order.ensures.picked.ends)
