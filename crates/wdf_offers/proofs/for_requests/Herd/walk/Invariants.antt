-- What is left from here on has the k-th.
use Rattle.std.proofs.Common.{◌≡◌, ◌-◌, ◌≤◌, length, slice_get}
use Rattle.wdf_offers.specs.ForRequests.{due_for, is_due_for}
use Rattle.wdf_offers.proofs.HerdWalk.{left_from}
use Rattle.wdf_offers.proofs.for_requests.Herd.walk.Given as goal

abbrev pub invariant-walk : goal.invariant-walk
invariant-walk g l = record {
  at : slice_get (left_from (is_due_for l.plan l.parts l.self l.q.0) (length l.parts.requests.all) l.at) l.left ≡ slice_get (due_for l.plan l.parts l.self l.q.0) l.k;
  within : l.at ≤ length l.parts.requests.all;
}

abbrev pub decreases-walk : goal.decreases-walk
decreases-walk g l = length l.parts.requests.all - l.at
