-- What a frame is counted under, and the counts by id.
use Rattle.std.specs.Prelude.{ℕ, ◌+◌, ◌<◌, ◌≡◌, List, Option, Some, count_by}
use Rattle.std.specs.Option.{option_map}
use Rattle.wdf_base.specs.declared.frame.Frame.{Frame}
use Rattle.wdf_base.specs.declared.frame.Pending.{Pending}
use Rattle.wdf_model.specs.declared.room.TheConstants.{OBJECTS}
use Rattle.wdf_model.specs.Tables.{entry, flag, same_id}
use Rattle.wdf_model.specs.parts.Cpus.{Cpus, all_frames, frame_of}
use Rattle.wdf_model.specs.State.{object_in}

-- the object of a frame
abbrev pub object_key : Frame → Option ℕ
object_key frame = Some frame.object.id.0

-- the object for which a frame waits, if it waits
abbrev pub waited_by : Option Pending → Option ℕ
waited_by pending = option_map (λ (p : Pending). object_in p.call.a) pending

abbrev pub wait_key : Frame → Option ℕ
wait_key frame = waited_by frame.pending

-- how many frames have an id as their key
abbrev pub keyed : (Frame → Option ℕ) → Cpus → ℕ → ℕ
keyed key C id = count_by (λ f. same_id (key (frame_of C f)) id) (all_frames C)

-- The counts are those of the frames, for every id that an object may have.
pub record CountsFrames (key : Frame → Option ℕ) (C : Cpus) (counts : List ℕ) : Type 0 where
  pub counted : (id : ℕ) → id < OBJECTS → entry 0 counts id ≡ keyed key C id

-- One left that was counted under `left`, and one came that is counted under `came`.
pub record Swapped (left came : Option ℕ) (old new : List ℕ) : Type 0 where
  pub counted : (id : ℕ) → id < OBJECTS → entry 0 new id + flag (same_id left id) ≡ entry 0 old id + flag (same_id came id)
