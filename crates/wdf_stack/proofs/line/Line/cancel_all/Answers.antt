-- The line stays in order.
use Rattle.std.proofs.Common.{length, arith}
use Rattle.std.proofs.lemmas.List.{length-map}
use Rattle.wdf_model.specs.agents.Connector.{cancelled_any, is_waiting}
use Rattle.wdf_stack.specs.Spans.{lower_key, number_key, request_key}
use Rattle.wdf_stack.proofs.Placing.{placed_mapped}
use Rattle.wdf_stack.proofs.Walking.{cancel_all_keeps_keys, none_mapped}
use Rattle.wdf_stack.proofs.line.Line.cancel_all.Goals as goal

pub invariant_of-self : goal.invariant_of-self
invariant_of-self c =
    let keeps = cancel_all_keeps_keys in
    let long = length-map c.self.inside.sent.items cancelled_any in
    record {
      capacity = omega (arith, c.self.invariant.capacity, c.cancel_whole.ensures.capacity);
      within = rw c.cancel_whole.ensures.items (omega (arith, c.self.invariant.within, long));
      small = c.self.invariant.small;
      counted = c.self.invariant.counted;
      requests = rw c.cancel_whole.ensures.items (placed_mapped request_key c.self.inside.by_request c.self.inside.sent.items c.self.inside.left c.self.inside.left_in_front c.self.invariant.requests cancelled_any keeps.request);
      lowers = rw c.cancel_whole.ensures.items (placed_mapped lower_key c.self.inside.by_lower c.self.inside.sent.items c.self.inside.left c.self.inside.left_in_front c.self.invariant.lowers cancelled_any keeps.lower);
      numbers = rw c.cancel_whole.ensures.items (placed_mapped number_key c.self.inside.by_number c.self.inside.sent.items c.self.inside.left c.self.inside.left_in_front c.self.invariant.numbers cancelled_any keeps.number);
      waiting = rw c.cancel_whole.ensures.items (none_mapped is_waiting c.self.inside.waiting c.self.inside.sent.items c.self.invariant.waiting cancelled_any keeps.waiting);
      due = c.first_due_in-self-inside.ensures;
    }
