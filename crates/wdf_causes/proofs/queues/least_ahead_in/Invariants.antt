-- The next to be looked at is at the counter's place, and what is found, with what is left, comes to the least ahead.
use Rattle.std.proofs.Common.{◌≡◌, None, option_map, slice_get}
use Rattle.wdf_model.specs.parts.Queues.{waiting_in}
use Rattle.wdf_causes.proofs.OnFrames.{ahead_from}
use Rattle.wdf_causes.proofs.queues.least_ahead_in.Given as goal

abbrev pub invariant-loop : goal.invariant-loop
invariant-loop l = record {
  next : option_map (λ x. x.0) l.next ≡ slice_get (waiting_in l.queues l.fn.q.0) l.counter;
  left : ahead_from l.queues l.fn.q.0 l.r.0 l.counter l.least ≡ ahead_from l.queues l.fn.q.0 l.r.0 0 None;
}
