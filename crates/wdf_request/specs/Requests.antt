-- The requests that the fields stand for, and what is kept beside them.
use Rattle.std.specs.Prelude.{◌≡◌, ◌≤◌, count_by, is_some, length, vec_capacity}
use Rattle.wdf_base.specs.Places.{is_closing, is_due, is_sent}
use Rattle.wdf_model.specs.declared.room.TheConstants.{OBJECTS}
use Rattle.wdf_model.specs.declared.entries.Request.{Request}
use Rattle.wdf_model.specs.parts.Requests.{Requests}
use Rattle.wdf_model.specs.rules.Ready.{is_open_request}
use Rattle.wdf_maps.specs.Counts.{AreCounted}
use Rattle.wdf_request.specs.Arrivals.{IsNoted}
use Rattle.wdf_request.specs.Closing.{IsSetOf}
use Rattle.wdf_request.specs.Keys.{due_queue, is_due_sent, returning_queue, sent_target, unfinished_device}
use Rattle.wdf_request.specs.declared.requests.Requests.TheInside.{Inside}

abbrev pub requests_in : Inside → Requests
requests_in s = record { all = s.all.items; arrived = s.arrived }

-- Every object may be a request. The counts, the sets and the rows are those of the requests.
pub record IsSound (s : Inside) : Type 0 where
  pub entries : length s.all.items ≤ OBJECTS
  pub room : OBJECTS ≤ vec_capacity s.all
  pub returning : AreCounted (λ (r : Request). returning_queue r.place) s.all.items s.returning
  pub sent : AreCounted (λ (r : Request). sent_target r.place) s.all.items s.sent
  pub unfinished : AreCounted unfinished_device s.all.items s.unfinished
  pub open_count : s.open_count ≡ count_by is_open_request s.all.items
  pub closing : IsSetOf (λ (r : Request). is_closing r.place) s.all.items s.closing
  pub due : IsSetOf (λ (r : Request). is_due r.info.mark) s.all.items s.due
  pub sendings : IsSetOf (λ (r : Request). is_sent r.place) s.all.items s.sendings
  pub returns : IsSetOf (λ (r : Request). is_some (returning_queue r.place)) s.all.items s.returns
  pub due_held : AreCounted due_queue s.all.items s.due_held
  pub due_sent : s.due_sent ≡ count_by is_due_sent s.all.items
  pub noted : IsNoted s.all.items s.arrivals
