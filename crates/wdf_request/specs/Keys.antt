-- The ids that a request belongs to.
use Rattle.std.specs.Prelude.{if◌then◌else◌, Bool, ◌&&◌, not, Option, Some, None}
use Rattle.wdf_base.specs.declared.ids.ObjectId.{ObjectId}
use Rattle.wdf_base.specs.declared.object.Place.{Place}
use Rattle.wdf_base.specs.declared.object.Place.TheVariants as place
use Rattle.wdf_base.specs.Places.{is_done, is_due, is_owned, is_sent}
use Rattle.wdf_model.specs.declared.entries.Request.{Request}
use Rattle.wdf_model.specs.parts.Requests.{has_arrived}

-- the queue that a request is Returning to
abbrev pub returning_queue : Place → Option ObjectId
returning_queue (place.Returning q) = Some q
returning_queue _ = None

-- the target that a request is Sent to
abbrev pub sent_target : Place → Option ObjectId
sent_target (place.Sent t) = Some t
sent_target _ = None

-- the device at which a request arrived that isn't done
abbrev pub unfinished_device : Request → Option ObjectId
unfinished_device r = if has_arrived r && not (is_done r.place) then Some r.info.device else None

-- the queue from which the driver has a request, where EvtRequestCancel is due for it
abbrev pub due_queue : Request → Option ObjectId
due_queue r = if is_due r.info.mark && is_owned r.place then r.info.origin else None

-- a request is Sent, and EvtRequestCancel is due for it
abbrev pub is_due_sent : Request → Bool
is_due_sent r = is_due r.info.mark && is_sent r.place
