-- What the fields of the processors say: the state that they stand for, the room, and what is kept beside it.
use Rattle.std.specs.Prelude.{ℕ, ◌≡◌, ◌≤◌, ◌==◌, Bool, false, List, length, count_by, vec_capacity}
use Rattle.wdf_model.specs.declared.room.TheConstants.{FRAMES}
use Rattle.wdf_model.specs.Tables.{entry, flag}
use Rattle.wdf_model.specs.parts.Cpus.{Cpus, all_frames, frame_level}
use Rattle.wdf_cpu.specs.Spending.{SpendUntil}
use Rattle.wdf_cpu.specs.Keys.{CountsFrames, object_key, wait_key}
use Rattle.wdf_cpu.specs.ParkedFor.{CountsParked}
use Rattle.wdf_cpu.specs.declared.cpus.Cpus.TheInside.{Inside}

abbrev pub cpus_in : Inside → Cpus
cpus_in a = record { frames = a.frames; stacks = a.stacks.items; parked = a.parked.entries; levels = a.levels }

-- Each frame that runs or is parked is so once, and is one of the live ones.
pub record IsLive (C : Cpus) (live : List Bool) : Type 0 where
  pub once : (f : ℕ) → count_by (λ x. x == f) (all_frames C) ≡ flag (entry false live f)
  pub few : length live ≤ FRAMES

-- the level of each frame
pub record ArePeaks (C : Cpus) (peaks : List ℕ) : Type 0 where
  pub level : (f : ℕ) → entry 0 peaks f ≡ frame_level C f

-- What is kept beside the state agrees with it.
pub record IsKept (C : Cpus) (flags : List Bool) (levels counts awaited : List ℕ) : Type 0 where
  pub live : IsLive C flags
  pub peaks : ArePeaks C levels
  pub on : CountsFrames object_key C counts
  pub waits : CountsFrames wait_key C awaited

pub record IsSound (a : Inside) : Type 0 where
  pub live_room : FRAMES ≤ vec_capacity a.live
  pub peaks_room : FRAMES ≤ vec_capacity a.peaks
  pub parked_room : FRAMES ≤ a.parked.room
  pub kept : IsKept (cpus_in a) a.live.items a.peaks.items a.on a.waits
  pub parked_for : CountsParked (cpus_in a) a.parked_for
  pub untils : SpendUntil (cpus_in a) a.untils
