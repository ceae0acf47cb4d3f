-- The ids from here on have the first that is sought.
use Rattle.std.proofs.Common.{◌≡◌, ◌-◌, length, find}
use Rattle.std.specs.List.{range_with_len}
use Rattle.wdf_model.specs.parts.Requests.{arrival_of, is_arrival}
use Rattle.wdf_posts.proofs.cancels.find_arrival.Given as goal

abbrev pub invariant-loop-id : goal.invariant-loop-id
invariant-loop-id l =
    find (is_arrival l.requests l.agent l.arrival) (range_with_len l.id (length l.requests.all - l.id)) ≡ arrival_of l.requests l.agent l.arrival
