-- By what the queue has presented.
use Rattle.check_trace.proofs.Turns.{turn_by}
use Rattle.check_trace.proofs.order.is_in_turn.Goals as goal

pub returns : goal.returns
returns c = turn_by c.args.past.now c.args.later _ _ _ c.last-entry.ensures.value c.stands-at_head.ensures c.last-entry.ensures.within c.is_next.ensures
