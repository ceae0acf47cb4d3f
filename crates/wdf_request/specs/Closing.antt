-- The requests that the framework will complete, those for which EvtRequestCancel is due, and those that are Sent, as
-- sets of ids.
use Rattle.std.specs.Prelude.{ℕ, Bool, List, filter}
use Rattle.wdf_base.specs.Places.{is_closing, is_due, is_sent}
use Rattle.wdf_model.specs.declared.entries.Request.{Request}
use Rattle.wdf_model.specs.declared.room.TheConstants.{OBJECTS}
use Rattle.wdf_model.specs.Tables.{ids_of}
use Rattle.wdf_model.specs.parts.Requests.{Requests, mark_of, no_request, place_of}
use Rattle.wdf_sets.specs.SetOf as sets

-- their ids, rising
abbrev pub closing_requests : Requests → List ℕ
closing_requests R = filter (λ r. is_closing (place_of R r)) (ids_of R.all)

abbrev pub due_requests : Requests → List ℕ
due_requests R = filter (λ r. is_due (mark_of R r)) (ids_of R.all)

-- whether a request is Sent
abbrev pub is_out : Requests → ℕ → Bool
is_out R r = is_sent (place_of R r)

-- The set has a bit for each object, and its members are the requests that pass a test.
abbrev pub IsSetOf : (Request → Bool) → List Request → List Bool → Type 0
IsSetOf test all bits = sets.IsSetOf (sets.passes no_request test all) OBJECTS bits
