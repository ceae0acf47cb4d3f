-- What both ends of the pipe know together is what was printed.
use Rattle.crossbeam_queue.specs.Passes.{view}
use Rattle.wdf_live.proofs.Exits.{both_ends}
use Rattle.wdf_live.proofs.run.side_by_side.Goals as goal

pub returns-clause-printed : goal.returns-clause-printed
returns-clause-printed g c =
    let p = c.print_beside-watched.ensures in
    let w = c.print_beside-watched.result.0 in
    both_ends c.args.plan.now w.state.core.value.journal w.ended (view w.pass) (view c.print_beside-watched.new.printer) c.put_together.ensures.0 _ c.print_beside-watched.result.1
    w.sent c.put_together.ensures.1 p.lines p.told

pub returns-clause-not_again : goal.returns-clause-not_again
returns-clause-not_again g c = c.print_beside-watched.ensures.not_again.ends
