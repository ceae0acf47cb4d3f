-- The law on runs in which idle devices sleep: a test of an event by the events before it. (own, after KMDF's S0 idle)
use Rattle.std.specs.Prelude.{◌≡◌, ℕ, ◌+◌, Bool, true, false, ◌==◌, nat_lt, nat_le, not, ◌&&◌, ◌||◌, List, Some, slice_get, take}
use Rattle.std.specs.List.{list_all, list_any}
use Rattle.wdf_base.specs.declared.plan.Plan.{Plan}
use Rattle.wdf_base.specs.declared.declared.PostLine.{PostLine}
use Rattle.wdf_base.specs.declared.event.Ask.TheVariants as asks
use Rattle.wdf_base.specs.declared.event.Post.{Post}
use Rattle.wdf_base.specs.declared.event.Post.TheVariants as post
use Rattle.wdf_base.specs.declared.event.Event.{Event}
use Rattle.wdf_base.specs.declared.event.Event.TheVariants as event
use Rattle.wdf_model.specs.Plans.{devices_of}
use Rattle.wdf_model.specs.agents.IdlePolicy.{timeout_of}
use Rattle.law_idle.specs.Idling.{has_pending, is_asleep, is_idle, since, time_after}

-- own: device d takes part: it has a timeout
abbrev pub takes_part : Plan → ℕ → Bool
takes_part plan d = nat_lt 0 (timeout_of plan d)

-- own: device d isn't asleep with a pending request, and hasn't been idle for its timeout or longer
abbrev pub is_well_rested : Plan → List Event → ℕ → Bool
is_well_rested plan before d =
    not (is_asleep d before && has_pending d before) && not (is_idle plan d before && nat_le (since plan d before + timeout_of plan d) (time_after before))

-- own: so of a device that takes part
abbrev pub rests_well : Plan → List Event → ℕ → Bool
rests_well plan before d = not (takes_part plan d) || is_well_rested plan before d

-- own: a post puts device d to sleep
abbrev pub is_sleep_of : ℕ → Post → Bool
is_sleep_of d (post.Ask asks.Sleep n) = n.id.0 == d
is_sleep_of d _ = false

-- own: a post wakes device d
abbrev pub is_wake_of : ℕ → Post → Bool
is_wake_of d (post.Ask asks.Wake n) = n.id.0 == d
is_wake_of d _ = false

-- own: a line of the pnp block puts device d to sleep
abbrev pub is_sent_to_sleep : Plan → ℕ → Bool
is_sent_to_sleep plan d = list_any (λ (l : PostLine). is_sleep_of d l.post) plan.pnp

-- own: a line of the pnp block wakes device d
abbrev pub is_woken_by_line : Plan → ℕ → Bool
is_woken_by_line plan d = list_any (λ (l : PostLine). is_wake_of d l.post) plan.pnp

-- own: a device that takes part, and that no line of the pnp block puts to sleep, goes to sleep exactly when it has been
-- idle for its timeout
abbrev pub sleeps_in_time : Plan → List Event → ℕ → Bool
sleeps_in_time plan before d =
    not (takes_part plan d) || is_sent_to_sleep plan d || (is_idle plan d before && time_after before == since plan d before + timeout_of plan d)

-- own: one that takes part, and that no line of the pnp block wakes, is woken when it is asleep with a pending request
abbrev pub is_wanted : Plan → List Event → ℕ → Bool
is_wanted plan before d = not (takes_part plan d) || is_woken_by_line plan d || (is_asleep d before && has_pending d before)

-- own: when time passes each device rests well, a posted sleep is in time, and a posted wake is wanted
abbrev pub keeps_idle_law : Plan → List Event → Event → Bool
keeps_idle_law plan before (event.Tick time) = list_all (rests_well plan before) (devices_of plan)
keeps_idle_law plan before (event.Posted agent (post.Ask asks.Sleep n) answer) = sleeps_in_time plan before n.id.0
keeps_idle_law plan before (event.Posted agent (post.Ask asks.Wake n) answer) = is_wanted plan before n.id.0
keeps_idle_law plan before _ = true

-- own: each event of a list keeps the law
abbrev pub KeepsIdleLaw : Plan → List Event → Type 0
KeepsIdleLaw plan run = (k : ℕ) (e : Event) → slice_get run k ≡ Some e → keeps_idle_law plan (take k run) e ≡ true
