-- The ids from here on have the first that is sought.
use Rattle.std.proofs.Common.{◌≡◌, ◌-◌, length, find}
use Rattle.std.specs.List.{range_with_len}
use Rattle.wdf_model.specs.parts.Requests.{arrival_of, is_arrival}
use Rattle.wdf_request.proofs.requests.Requests.find_arrival.Given as goal

abbrev pub invariant-loop-id : goal.invariant-loop-id
invariant-loop-id l =
    find (is_arrival l.self l.agent l.k) (range_with_len l.id (length l.self.all - l.id)) ≡ arrival_of l.self l.agent l.k
