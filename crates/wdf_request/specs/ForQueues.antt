-- The requests for which a callback of a queue is due, as far as the requests alone say.
use Rattle.std.specs.Prelude.{ℕ, nat_lt, Bool, List, filter, is_some, length}
use Rattle.wdf_base.specs.Places.{is_returning_to}
use Rattle.wdf_model.specs.Tables.{ids_of}
use Rattle.wdf_model.specs.parts.Requests.{Requests, place_of, request_of}
use Rattle.wdf_maps.specs.Counts.{is_at}
use Rattle.wdf_request.specs.Keys.{due_queue, returning_queue}

-- a request is Returning to some queue
abbrev pub is_back : Requests → ℕ → Bool
is_back R r = is_some (returning_queue (place_of R r))

-- the ids of those that are Returning to some queue, rising
abbrev pub returning_requests : Requests → List ℕ
returning_requests R = filter (is_back R) (ids_of R.all)

-- of those that are Returning to queue q
abbrev pub returning_to : Requests → ℕ → List ℕ
returning_to R q = filter (λ r. is_returning_to q (place_of R r)) (ids_of R.all)

-- of those that the driver has from queue q, and for which EvtRequestCancel is due
abbrev pub due_from : Requests → ℕ → List ℕ
due_from R q = filter (λ r. is_at q (due_queue (request_of R r))) (ids_of R.all)

-- some request is Returning to queue q
abbrev pub has_returning : Requests → ℕ → Bool
has_returning R q = nat_lt 0 (length (returning_to R q))

-- EvtRequestCancel is due for some request that the driver has from queue q
abbrev pub has_due : Requests → ℕ → Bool
has_due R q = nat_lt 0 (length (due_from R q))
