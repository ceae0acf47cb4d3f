-- The journal goes on from the given one, first by the workers and then by the caller.
use Rattle.wdf_turn.proofs.Prefixes.{prefix_trans}
use Rattle.wdf_workers.proofs.run.run_threads.Goals as goal

pub returns-clause-journal : goal.returns-clause-journal
returns-clause-journal g c = rw (← c.in_ok-core.ensures.ok) (prefix_trans _ _ _ c.in_ok-state.ensures.list c.finish.ensures.journal)
