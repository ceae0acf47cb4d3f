-- The lists and the counts of the processors, as they are made.
use Rattle.std.specs.Prelude.{ℕ, ◌≡◌, ◌≤◌, [], replicate, vec_capacity}
use Rattle.wdf_model.specs.declared.room.TheConstants.{FRAMES}
use Rattle.wdf_cpu.specs.declared.fresh.FreshLists.{FreshLists}
use Rattle.wdf_cpu.specs.declared.fresh.FreshTallies.{FreshTallies}

pub record AreFresh (cpus : ℕ) (l : FreshLists) : Type 0 where
  pub stacks : l.stacks.items ≡ replicate cpus []
  pub parked_room : l.parked.room ≡ FRAMES
  pub parked : l.parked.entries ≡ []
  pub levels : l.levels ≡ []
  pub live_room : FRAMES ≤ vec_capacity l.live
  pub live : l.live.items ≡ []
  pub peaks_room : FRAMES ≤ vec_capacity l.peaks
  pub peaks : l.peaks.items ≡ []
  pub untils : l.untils ≡ []

pub record CountNothing (t : FreshTallies) : Type 0 where
  pub on : t.on ≡ []
  pub waits : t.waits ≡ []
  pub parked_for : t.parked_for ≡ []
