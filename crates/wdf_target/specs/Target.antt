-- What the fields of a target say.
use Rattle.std.specs.Prelude.{ℕ, ◌≡◌, filter, min, true}
use Rattle.wdf_model.specs.declared.room.TheConstants.{OBJECTS}
use Rattle.wdf_model.specs.declared.entries.Sending.{Sending}
use Rattle.wdf_model.specs.parts.Targets.{Target}
use Rattle.wdf_maps.specs.Places.{rises}
use Rattle.wdf_target.specs.Finished.{comes_back}
use Rattle.wdf_target.specs.declared.target.Target.TheInside.{Inside}

abbrev pub target_in : Inside → Target
target_in t = record { depth = t.depth; stopped = t.stopped; sent = t.sent.entries }

abbrev pub request_id : Sending → ℕ
request_id s = s.request.0

-- What is sent are objects, and there is room for as many as the target holds. Those that it is done with and that come back
-- are kept once more, by themselves.
pub record IsSound (t : Inside) : Type 0 where
  pub objects : rises request_id 0 OBJECTS t.sent.entries ≡ true
  pub room : t.sent.room ≡ min t.depth OBJECTS
  pub done : t.done.entries ≡ filter comes_back t.sent.entries
  pub done_room : t.done.room ≡ t.sent.room
