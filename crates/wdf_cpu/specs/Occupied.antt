-- The objects that frames are on, and those that frames wait for.
use Rattle.std.specs.Prelude.{ℕ, Bool, not}
use Rattle.std.specs.List.{list_any}
use Rattle.wdf_model.specs.State.{waits_for}
use Rattle.wdf_model.specs.parts.Cpus.{Cpus, all_frames, frame_of, nobody_on}

-- whether a frame is on object o, on a processor or parked
abbrev pub is_occupied : Cpus → ℕ → Bool
is_occupied C o = not (nobody_on C o)

-- whether a frame waits in a call about object o
abbrev pub is_awaited : Cpus → ℕ → Bool
is_awaited C o = list_any (λ f. waits_for o (frame_of C f).pending) (all_frames C)
