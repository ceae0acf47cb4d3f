-- The requests: places, marks, and what is kept of each. (KMDF, but for what is marked own)
use Rattle.std.specs.Prelude.{if◌then◌else◌, ℕ, ◌+◌, Bool, true, false, ◌==◌, nat_lt, ◌&&◌, ◌||◌, List, [], find, map, slice_set, Option, Some, None, is_none, option_map}
use Rattle.wdf_base.specs.declared.ids.ObjectId.{ObjectId}
use Rattle.wdf_base.specs.declared.value.Status.{Status}
use Rattle.wdf_base.specs.declared.value.Status.TheVariants as status
use Rattle.wdf_base.specs.declared.object.Place.{Place}
use Rattle.wdf_base.specs.declared.object.Place.TheVariants as place
use Rattle.wdf_base.specs.declared.object.Mark.{Mark}
use Rattle.wdf_base.specs.declared.object.Mark.TheVariants as marks
use Rattle.wdf_base.specs.declared.object.RequestForm.TheVariants as form
use Rattle.wdf_base.specs.declared.object.RequestInfo.{RequestInfo}
use Rattle.wdf_base.specs.Places.{is_done, is_marked, is_owned, is_queued_in, is_returning_to}
use Rattle.wdf_model.specs.Tables.{entry, put, change_at, ids_of, flag}
use Rattle.wdf_model.specs.declared.entries.Request.{Request}

-- all requests, those that arrived from agents and those that the driver made
pub record Requests : Type 0 where
  -- by id; what is no request, or is gone, is Done
  pub all : List Request
  -- how many requests arrived
  pub arrived : ℕ

-- own: what is kept of a request that the driver makes, whose nearest device this is: no origin, the form control,
-- and 0 for length, code, agent and arrival
abbrev pub made_info : ℕ → RequestInfo
made_info device = record {
  device = record { 0 = device };
  form = form.Control;
  length = 0;
  code = 0;
  origin = None;
  agent = 0;
  arrival = 0;
  mark = marks.Unmarked;
  cancelled = false;
  received = false;
}

-- what reads for an id that is no request, and for one that is gone: Done, and not cancelled
abbrev pub no_request : Request
no_request = record { place = place.Done; info = made_info 0 }

-- ---- readers

-- request r: its place, and what is kept of it
abbrev pub request_of : Requests → ℕ → Request
request_of R r = entry no_request R.all r

-- the place of request r: queued, returning, closing, owned, sent or done; Done for an id that is no request
abbrev pub place_of : Requests → ℕ → Place
place_of R r = (request_of R r).place

-- what is kept of request r beside its place: its source, length and code, its mark, and whether it is cancelled
abbrev pub info_of : Requests → ℕ → RequestInfo
info_of R r = (request_of R r).info

-- the mark of request r: none, Marked (cancelable), Due (its cancel callback is to come), Taken (that has started)
-- (KMDF)
abbrev pub mark_of : Requests → ℕ → Mark
mark_of R r = (info_of R r).mark

-- the id of the queue from which request r last became Owned; None before that, and for one that the driver made
abbrev pub origin_of : Requests → ℕ → Option ℕ
origin_of R r = option_map (λ q. q.0) (info_of R r).origin

-- whether request r is cancelled: by the app that sent it, or in a queue that was purged (KMDF)
abbrev pub is_cancelled : Requests → ℕ → Bool
is_cancelled R r = (info_of R r).cancelled

-- whether a request arrived from an agent, and was not made by the driver: arrivals are numbered from 1 (own)
abbrev pub has_arrived : Request → Bool
has_arrived r = nat_lt 0 r.info.arrival

-- whether request r is that of the arrival with number k of an agent; the number 0 is none
abbrev pub is_arrival : Requests → ℕ → ℕ → ℕ → Bool
is_arrival R agent k r = nat_lt 0 k && (info_of R r).agent == agent && (info_of R r).arrival == k

-- the request of the arrival with number k of an agent, None where that made none or it is gone
abbrev pub arrival_of : Requests → ℕ → ℕ → Option ℕ
arrival_of R agent k = find (is_arrival R agent k) (ids_of R.all)

-- ---- acts

-- request r changes by f, and no other
abbrev pub with_request : Requests → ℕ → (Request → Request) → Requests
with_request R r f = record R { all = change_at no_request R.all r f }

-- request r is there from now on, at place p; one that came from an agent is counted
abbrev pub arrive : Requests → ℕ → Place → RequestInfo → Requests
arrive R r p info = record {
  all = put no_request R.all r (record { place = p; info = info });
  arrived = R.arrived + flag (nat_lt 0 info.arrival);
}

-- the mark of a request that comes to a new place: none again, but where it becomes Owned or Done
abbrev pub mark_at : Place → Mark → Mark
mark_at place.Owned m = m
mark_at place.Done m = m
mark_at _ m = marks.Unmarked

-- the origin of a request that goes from one place to another: the queue from which it becomes Owned, else as before
abbrev pub origin_from : Place → Place → Option ObjectId → Option ObjectId
origin_from (place.Queued q) place.Owned old = Some q
origin_from (place.Returning q) place.Owned old = Some q
origin_from _ _ old = old

-- whether the driver ever had a request, once it comes to a new place: from the first time that it is Owned
abbrev pub received_at : Place → Bool → Bool
received_at place.Owned old = true
received_at _ old = old

-- a request at its new place p, with what changes by that: its mark, its origin, and whether the driver ever had it
abbrev pub moved : Place → Request → Request
moved p r = record {
  place = p;
  info = record r.info { mark = mark_at p r.info.mark; origin = origin_from r.place p r.info.origin; received = received_at p r.info.received };
}

-- request r goes to place p
abbrev pub move_to : Requests → ℕ → Place → Requests
move_to R r p = with_request R r (moved p)

-- a request with mark m, and nothing else changed
abbrev pub with_mark : Mark → Request → Request
with_mark m r = record r { info = record r.info { mark = m } }

-- a request becomes cancelable, unless it is cancelled already (KMDF)
abbrev pub marked : Request → Request
marked r = if r.info.cancelled then r else with_mark marks.Marked r

-- request r becomes cancelable, unless it is cancelled already
abbrev pub mark : Requests → ℕ → Requests
mark R r = with_request R r marked

-- what marking request r answers: CANCELLED where it is cancelled, which leaves it unmarked, else SUCCESS (KMDF)
abbrev pub mark_answer : Requests → ℕ → Status
mark_answer R r = if is_cancelled R r then status.Cancelled else status.Success

-- a request is no longer cancelable; a mark whose cancel is due or taken stays (KMDF)
abbrev pub unmarked : Request → Request
unmarked r = if is_marked r.info.mark then with_mark marks.Unmarked r else r

-- request r is no longer cancelable; a mark whose cancel is due or taken stays
abbrev pub unmark : Requests → ℕ → Requests
unmark R r = with_request R r unmarked

-- what unmarking answers: SUCCESS where it came before the cancel, CANCELLED where it came after,
-- INVALID_DEVICE_REQUEST without a mark (KMDF)
abbrev pub answer_of_mark : Mark → Status
answer_of_mark marks.Marked = status.Success
answer_of_mark marks.Due = status.Cancelled
answer_of_mark marks.Taken = status.Cancelled
answer_of_mark marks.Unmarked = status.InvalidDeviceRequest

-- what unmarking request r answers, by its mark before the call
abbrev pub unmark_answer : Requests → ℕ → Status
unmark_answer R r = answer_of_mark (mark_of R r)

-- the mark of a request that is cancelled: a cancelable one has EvtRequestCancel due, each other mark stays (KMDF)
abbrev pub mark_cancelled : Mark → Mark
mark_cancelled marks.Marked = marks.Due
mark_cancelled m = m

-- a request that is cancelled from now on; its place stays
abbrev pub cancelled : Request → Request
cancelled r = record r { info = record r.info { cancelled = true; mark = mark_cancelled r.info.mark } }

-- request r is cancelled from now on; its place stays
abbrev pub cancel : Requests → ℕ → Requests
cancel R r = with_request R r cancelled

-- EvtRequestCancel for request r starts, and its mark is Taken
abbrev pub take_cancel : Requests → ℕ → Requests
take_cancel R r = with_request R r (with_mark marks.Taken)

-- request r is completed
abbrev pub complete : Requests → ℕ → Requests
complete R r = move_to R r place.Done

-- a request is to be completed by the framework with CANCELLED, if its place is one of those that `here` names
abbrev pub closed_at : (Place → Bool) → Request → Request
closed_at here r = if here r.place then moved (place.Closing status.Cancelled) r else r

-- each request that returns from queue q is to be completed by the framework with CANCELLED (own)
abbrev pub close_returning : Requests → ℕ → Requests
close_returning R q = record R { all = map (closed_at (is_returning_to q)) R.all }

-- whether a request at this place waits in queue q or returns from it
abbrev pub is_in : ℕ → Place → Bool
is_in q p = is_queued_in q p || is_returning_to q p

-- each request that waits in queue q or returns from it is to be completed by the framework with CANCELLED (own)
abbrev pub close : Requests → ℕ → Requests
close R q = record R { all = map (closed_at (is_in q)) R.all }

-- whether nothing more can come of a request: it is completed, or the driver made it and has it
abbrev pub is_over : Request → Bool
is_over r = is_done r.place || (is_owned r.place && is_none r.info.origin)

-- a request whose object is destroyed: nothing is kept of it, once nothing more can come of it
abbrev pub forgotten : Request → Request
forgotten r = if is_over r then no_request else r

-- request r is gone with its object, and nothing of it is kept
abbrev pub forget : Requests → ℕ → Requests
forget R r = record R { all = slice_set R.all r (forgotten (request_of R r)) }

-- at the opening no request is there
abbrev pub no_requests : Requests
no_requests = record { all = []; arrived = 0 }
