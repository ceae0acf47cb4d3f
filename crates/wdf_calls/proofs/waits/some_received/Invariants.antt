-- The next to be looked at is at the counter's place, and what is left from there comes to the whole.
use Rattle.std.proofs.Common.{◌≡◌, drop, slice_get, option_map}
use Rattle.std.specs.List.{list_any}
use Rattle.wdf_model.specs.parts.Queues.{waiting_in}
use Rattle.wdf_model.specs.parts.Requests.{info_of}
use Rattle.wdf_calls.proofs.waits.some_received.Given as goal

abbrev pub invariant-loop : goal.invariant-loop
invariant-loop g l = record {
  next : option_map (λ r. r.0) l.next ≡ slice_get (waiting_in l.parts.queues l.fn.q.0) l.counter;
  left : list_any (λ r. (info_of l.parts.requests r).received) (drop l.counter (waiting_in l.parts.queues l.fn.q.0)) ≡ list_any (λ r. (info_of l.parts.requests r).received) (waiting_in l.parts.queues l.fn.q.0);
}
