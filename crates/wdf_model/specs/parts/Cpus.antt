-- The processors: their frames, the levels that the frames hold, and the frames that are parked.
use Rattle.std.specs.Prelude.{if◌then◌else◌, ℕ, max, Bool, ◌==◌, ◌&&◌, List, [], ◌∷◌, ◌++◌, length, filter, drop, replicate, fold, Option, Some, None, map, not}
use Rattle.std.specs.List.{list_any, flat_map}
use Rattle.wdf_base.specs.declared.plan.Plan.{Plan}
use Rattle.wdf_base.specs.declared.ids.Handle.{Handle}
use Rattle.wdf_base.specs.declared.frame.Frame.{Frame}
use Rattle.wdf_base.specs.declared.value.Status.TheVariants as status
use Rattle.wdf_base.specs.declared.value.Value.TheVariants.{Num}
use Rattle.wdf_base.specs.declared.call.Callback.{Callback}
use Rattle.wdf_base.specs.declared.call.Callback.TheVariants as callback
use Rattle.wdf_base.specs.Same.{same_callback}
use Rattle.wdf_model.specs.Tables.{entry, put, change_at, without, in_order, first_of_list}
use Rattle.wdf_model.specs.declared.entries.Running.{Running}
use Rattle.wdf_model.specs.declared.entries.HeldLevel.{HeldLevel}

-- the processors: a frame is a callback that has started and hasn't ended, and on each processor the top frame runs
pub record Cpus : Type 0 where
  -- the frames by number: the number of the event that started the frame
  pub frames : List Running
  -- for each processor the numbers of its frames, the top first
  pub stacks : List (List ℕ)
  -- the numbers of the frames that left their processor, rising
  pub parked : List ℕ
  -- the levels that the frames hold, the latest first
  pub levels : List HeldLevel

-- the handle that names no object
abbrev pub no_handle : Handle
no_handle = record { id = record { 0 = 0 }; name = 0 }

-- what reads for a number that no frame has
abbrev pub blank_frame : Frame
blank_frame = record {
  callback = callback.EvtDestroyCallback;
  object = no_handle;
  device = no_handle;
  request = None;
  length = 0;
  code = 0;
  status = status.Success;
  script = 0;
  at = 0;
  variables = replicate 16 (Num 0);
  counters = replicate 16 0;
  until = 0;
  pending = None;
}

-- what reads for a number that no frame has, with PASSIVE_LEVEL
abbrev pub no_frame : Running
no_frame = record { frame = blank_frame; level = record { 0 = 0 } }

-- ---- readers

-- frame f with the level of its callback, a blank one where no frame has this number
abbrev pub running : Cpus → ℕ → Running
running C f = entry no_frame C.frames f

-- frame f: its callback, its object and request, its place in the script, and what it waits for
abbrev pub frame_of : Cpus → ℕ → Frame
frame_of C f = (running C f).frame

-- the numbers of the frames of a processor, the top first; none for a processor that isn't there
abbrev pub stack_of : Cpus → ℕ → List ℕ
stack_of C cpu = entry [] C.stacks cpu

-- the number of the top frame of a processor, None where the processor is empty
abbrev pub top : Cpus → ℕ → Option ℕ
top C cpu = first_of_list (stack_of C cpu)

-- whether no frame is on a processor: only there a callback at PASSIVE_LEVEL starts, and a parked frame comes back
abbrev pub is_empty_cpu : Cpus → ℕ → Bool
is_empty_cpu C cpu = length (stack_of C cpu) == 0

-- the levels that frame f has by locks that it acquired by a call, or spins for
abbrev pub levels_of : Cpus → ℕ → List ℕ
levels_of C f = map (λ (l : HeldLevel). l.level.0) (filter (λ (l : HeldLevel). l.frame.0 == f) C.levels)

-- the level of frame f: the greatest of its callback's and of those that it has by locks (KMDF)
abbrev pub frame_level : Cpus → ℕ → ℕ
frame_level C f = fold max (running C f).level.0 (levels_of C f)

-- the level of a processor whose top frame this is; PASSIVE_LEVEL, 0, where it has none
abbrev pub level_of_top : Cpus → Option ℕ → ℕ
level_of_top C None = 0
level_of_top C (Some f) = frame_level C f

-- KMDF: the level of a processor: that of its top frame, or PASSIVE_LEVEL, 0, where it is empty
abbrev pub irql : Cpus → ℕ → ℕ
irql C cpu = level_of_top C (top C cpu)

-- the numbers of all frames, running and parked
abbrev pub all_frames : Cpus → List ℕ
all_frames C = flat_map (λ fs. fs) C.stacks ++ C.parked

-- whether the callback of frame f is on object o
abbrev pub is_on : Cpus → ℕ → ℕ → Bool
is_on C o f = (frame_of C f).object.id.0 == o

-- how many frames, parked ones among them, run on object o
abbrev pub frames_on : Cpus → ℕ → ℕ
frames_on C o = length (filter (is_on C o) (all_frames C))

-- whether no frame runs on object o; a parked frame counts as one that runs
abbrev pub nobody_on : Cpus → ℕ → Bool
nobody_on C o = frames_on C o == 0

-- whether a frame of callback c runs whose nearest device is this one; a parked frame counts as one that runs
abbrev pub is_running : Cpus → Callback → ℕ → Bool
is_running C c device =
    list_any (λ f. same_callback (frame_of C f).callback c && (frame_of C f).device.id.0 == device) (all_frames C)

-- ---- acts

-- frame f begins on a processor, on top of what is there, with this level
abbrev pub push : Cpus → ℕ → ℕ → Frame → ℕ → Cpus
push C cpu f frame level = record {
  frames = put no_frame C.frames f (record { frame = frame; level = record { 0 = level } });
  stacks = put [] C.stacks cpu (f ∷ stack_of C cpu);
  parked = C.parked;
  levels = C.levels;
}

-- frame f goes on: it is now this frame, on the same place of its stack
abbrev pub change : Cpus → ℕ → Frame → Cpus
change C f frame = record C { frames = change_at no_frame C.frames f (λ r. record r { frame = frame }) }

-- frame f has a level more, by a lock
abbrev pub raise : Cpus → ℕ → ℕ → Cpus
raise C f level = record C { levels = record { frame = record { 0 = f }; level = record { 0 = level } } ∷ C.levels }

-- the levels without one of frame f, where it has this level; of several equal ones the latest goes
abbrev pub less_one : ℕ → ℕ → List HeldLevel → List HeldLevel
less_one f level [] = []
less_one f level (l ∷ ls) = if l.frame.0 == f && l.level.0 == level then ls else l ∷ less_one f level ls

-- frame f has this level no more, as it gives a lock back
abbrev pub lower : Cpus → ℕ → ℕ → Cpus
lower C f level = record C { levels = less_one f level C.levels }

-- the frames without this one, if there is one
abbrev pub without_frame : Cpus → Option ℕ → List Running
without_frame C None = C.frames
without_frame C (Some f) = put no_frame C.frames f no_frame

-- the levels without those of this frame, if there is one
abbrev pub levels_without : Cpus → Option ℕ → List HeldLevel
levels_without C None = C.levels
levels_without C (Some f) = filter (λ (l : HeldLevel). not (l.frame.0 == f)) C.levels

-- the top frame of a processor ends, and the frame below it runs again
abbrev pub pop : Cpus → ℕ → Cpus
pop C cpu = record {
  frames = without_frame C (top C cpu);
  stacks = put [] C.stacks cpu (drop 1 (stack_of C cpu));
  parked = C.parked;
  levels = levels_without C (top C cpu);
}

-- the parked frames with this one more, if there is one, rising
abbrev pub parked_with : Cpus → Option ℕ → List ℕ
parked_with C None = C.parked
parked_with C (Some f) = in_order f C.parked

-- own: the top frame of a processor, which waits at PASSIVE_LEVEL, leaves it and is parked
abbrev pub park : Cpus → ℕ → Cpus
park C cpu = record {
  frames = C.frames;
  stacks = put [] C.stacks cpu (drop 1 (stack_of C cpu));
  parked = parked_with C (top C cpu);
  levels = C.levels;
}

-- own: parked frame f comes back to a processor, which needn't be the one that it left
abbrev pub unpark : Cpus → ℕ → ℕ → Cpus
unpark C cpu f = record {
  frames = C.frames;
  stacks = put [] C.stacks cpu (f ∷ stack_of C cpu);
  parked = without f C.parked;
  levels = C.levels;
}

-- ---- the opening

-- at the opening all processors are empty
abbrev pub opening_cpus : Plan → Cpus
opening_cpus plan = record { frames = []; stacks = replicate plan.cpus []; parked = []; levels = [] }
