-- The sender is the pipe's own; what was printed of the workers' run is printed of the finished one, which begins with it.
use Rattle.wdf_live.proofs.Exits.{printed_whole}
use Rattle.wdf_live.proofs.run.watch.Goals as goal

pub invariant_of-watched-clause-own : goal.invariant_of-watched-clause-own
invariant_of-watched-clause-own g c = c.in_ok-pipe.ensures.own.0

pub side_by_side-state-requires-clause-row : goal.side_by_side-state-requires-clause-row
side_by_side-state-requires-clause-row g c κs within = (_, c.in_ok-turn.ensures.row)

pub returns-clause-printed : goal.returns-clause-printed
returns-clause-printed g c =
    printed_whole c.args.core.plan c.args.plan.now c.side_by_side-state.result.0.core.value.journal c.finish.result.journal _ c.side_by_side-state.result.1
    c.requires.plan c.finish.ensures.journal c.side_by_side-state.ensures.printed
