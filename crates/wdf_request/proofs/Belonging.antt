-- What belongs to an id: the requests of a queue, a target or a device.
use Rattle.std.proofs.Common.{if◌then◌else◌, ℕ, ◌≡◌, ◌==◌, ◌&&◌, not, Bool, true, false, Some, None, refl, sym}
use Rattle.std.proofs.Math.Bool.{and-false, and-true}
use Rattle.wdf_base.specs.declared.ids.ObjectId.{ObjectId}
use Rattle.wdf_base.specs.declared.object.Place.{Place}
use Rattle.wdf_base.specs.declared.object.Place.TheVariants as place
use Rattle.wdf_base.specs.Places.{is_done, is_returning_to, is_sent_to}
use Rattle.wdf_model.specs.declared.entries.Request.{Request}
use Rattle.wdf_model.specs.parts.Requests.{has_arrived}
use Rattle.wdf_model.specs.rules.Starts.{is_unfinished_at}
use Rattle.wdf_maps.specs.Counts.{is_at}
use Rattle.wdf_request.specs.Keys.{returning_queue, sent_target, unfinished_device}

pub is_at_queue : (q : ℕ) (p : Place) → is_at q (returning_queue p) ≡ is_returning_to q p
is_at_queue q (place.Queued o) = refl
is_at_queue q _ = refl

pub is_at_target : (t : ℕ) (p : Place) → is_at t (sent_target p) ≡ is_sent_to t p
is_at_target t (place.Queued o) = refl
is_at_target t _ = refl

both_by : (device : ObjectId) (d : ℕ) (arrived undone : Bool)
    → is_at d (if arrived && undone then Some device else None) ≡ (arrived && (device.0 == d) && undone)
both_by device d true true = sym (and-true (device.0 == d))
both_by device d true false = sym (and-false (device.0 == d))
both_by device d false undone = refl

pub is_at_device : (d : ℕ) (r : Request) → is_at d (unfinished_device r) ≡ is_unfinished_at d r
is_at_device d r = both_by r.info.device d (has_arrived r) (not (is_done r.place))
