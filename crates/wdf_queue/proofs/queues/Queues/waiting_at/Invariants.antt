-- The request at the place that was reached.
use Rattle.std.proofs.Common.{◌≡◌, slice_get}
use Rattle.wdf_ilist.specs.Family.{list_at}
use Rattle.wdf_queue.proofs.queues.Queues.waiting_at.Given as goal

abbrev pub invariant-loop-place : goal.invariant-loop-place
invariant-loop-place l = l.found ≡ slice_get (list_at l.self-inside.waiting.lists l.fn.q.0) l.place
