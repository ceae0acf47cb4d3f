-- The places at which lists break the law on idle runs, computed.
use Rattle.std.proofs.Common.{◌≡◌, refl, Some}
use Rattle.wdf_laws.specs.Words.{ever}
use Rattle.law_idle.specs.Idling.{time_after, awake_rest, asleep_rest, is_held}
use Rattle.law_idle_worked.specs.IdleRequests.{sleeps_when_unused_plan, hold_by_device_plan}
use Rattle.law_idle.specs.First.{first_break}
use Rattle.law_idle_worked.specs.Broken.{early, late, forgotten, held, unheard, used, unwanted}

pub early_breaks : first_break sleeps_when_unused_plan early ≡ Some 2
unfolding time_after awake_rest asleep_rest is_held ever
early_breaks = refl

pub late_breaks : first_break sleeps_when_unused_plan late ≡ Some 3
unfolding time_after awake_rest asleep_rest is_held ever
late_breaks = refl

pub forgotten_breaks : first_break sleeps_when_unused_plan forgotten ≡ Some 17
unfolding time_after awake_rest asleep_rest is_held ever
forgotten_breaks = refl

pub held_breaks : first_break hold_by_device_plan held ≡ Some 8
unfolding time_after awake_rest asleep_rest is_held ever
held_breaks = refl

pub unheard_breaks : first_break hold_by_device_plan unheard ≡ Some 4
unfolding time_after awake_rest asleep_rest is_held ever
unheard_breaks = refl

pub used_breaks : first_break sleeps_when_unused_plan used ≡ Some 4
unfolding time_after awake_rest asleep_rest is_held ever
used_breaks = refl

pub unwanted_breaks : first_break sleeps_when_unused_plan unwanted ≡ Some 14
unfolding time_after awake_rest asleep_rest is_held ever
unwanted_breaks = refl
