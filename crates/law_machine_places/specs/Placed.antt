-- Which events that may come have a place among the candidates. (own)
use Rattle.std.specs.Prelude.{ℕ, Bool, true, false, ◌==◌, ◌&&◌, ◌≡◌, nat_lt, List, length, Option, Some, None, is_some, option_map, unwrap_or, slice_get}
use Rattle.wdf_base.specs.Callbacks.{row_of, dpc_function}
use Rattle.wdf_base.specs.Same.{same_callback}
use Rattle.wdf_base.specs.declared.call.Callback.{Callback}
use Rattle.wdf_base.specs.declared.declared.InterruptInfo.{InterruptInfo}
use Rattle.wdf_base.specs.declared.event.Event.{Event}
use Rattle.wdf_base.specs.declared.event.Event.TheVariants as event
use Rattle.wdf_base.specs.declared.event.Step.{Step}
use Rattle.wdf_base.specs.declared.event.Step.TheVariants as step
use Rattle.wdf_base.specs.declared.ids.Handle.{Handle}
use Rattle.wdf_base.specs.declared.plan.Plan.{Plan}
use Rattle.wdf_base.specs.declared.rank.Rank.{Rank}
use Rattle.wdf_base.specs.declared.rank.Rank.TheVariants as rank
use Rattle.wdf_model.specs.Plans.{interrupt_of, queue_of, target_of}
use Rattle.wdf_model.specs.State.{State}
use Rattle.wdf_model.specs.parts.Pnp.{next_step}
use Rattle.wdf_model.specs.parts.Tree.{kind_of, next_id}
use Rattle.wdf_model.specs.rules.Groups.{declared_end, places_for, places_of_rank}
use Rattle.wdf_model.specs.rules.Steps.{is_cpu}

-- an event is one of these
abbrev pub IsAmong : Event → List Event → Type 0
IsAmong e es = (k : ℕ) × (slice_get es k ≡ Some e)

-- ---- what is declared

abbrev pub is_declared_id : Plan → ℕ → Bool
is_declared_id plan o = nat_lt o (declared_end plan)

abbrev pub has_interrupt : Plan → ℕ → Bool
has_interrupt plan i = is_some (interrupt_of plan i) && is_declared_id plan i

abbrev pub has_queue : Plan → ℕ → Bool
has_queue plan q = is_some (queue_of plan q) && is_declared_id plan q

abbrev pub has_target : Plan → ℕ → Bool
has_target plan t = is_some (target_of plan t) && is_declared_id plan t

-- ---- starts

-- the device of which a callback on an object is a step: that of an interrupt, else the object itself
abbrev pub device_of_step : Plan → ℕ → ℕ
device_of_step plan o = unwrap_or (option_map (λ (x : InterruptInfo). x.device.0) (interrupt_of plan o)) o

-- a step of a device is this callback on this object
abbrev pub is_step_on : ℕ → Callback → ℕ → Option Step → Bool
is_step_on d c o (Some (step.Run b None)) = same_callback b c && d == o
is_step_on d c o (Some (step.Run b (Some i))) = same_callback b c && i.id.0 == o
is_step_on d c o _ = false

-- a start without a request has a place, by the rank of its callback
abbrev pub has_start : {A : Type 0} → Plan → State A → Callback → ℕ → Rank → Bool
has_start plan S c o rank.Isr = has_interrupt plan o
has_start plan S c o rank.Deferred = same_callback c (dpc_function (kind_of S.tree o))
has_start plan S c o rank.Timed = true
has_start plan S c o rank.QueueState = has_queue plan o
has_start plan S c o rank.Sequence = is_declared_id plan (device_of_step plan o) && is_step_on (device_of_step plan o) c o (next_step S.pnp (device_of_step plan o))
has_start plan S c o rank.Work = true
has_start plan S c o rank.Cleanup = nat_lt o (places_of_rank plan S rank.Cleanup)
has_start plan S c o rank.Destroy = nat_lt o (places_of_rank plan S rank.Destroy)
has_start plan S c o _ = false

-- a start for a request has one
abbrev pub has_start_for : {A : Type 0} → Plan → State A → ℕ → ℕ → Rank → Bool
has_start_for plan S o r rank.Handler = is_declared_id plan o
has_start_for plan S o r rank.Completion = has_target plan o
has_start_for plan S o r rank.Cancel = has_queue plan o && nat_lt r (places_for plan S rank.Cancel o)
has_start_for plan S o r rank.CanceledOnQueue = has_queue plan o && nat_lt r (places_for plan S rank.CanceledOnQueue o)
has_start_for plan S o r rank.Stop = has_queue plan o && nat_lt r (places_for plan S rank.Stop o)
has_start_for plan S o r rank.Resume = has_queue plan o && nat_lt r (places_for plan S rank.Resume o)
has_start_for plan S o r _ = false

-- a start has one
abbrev pub has_start_if_any : {A : Type 0} → Plan → State A → Callback → ℕ → Option Handle → Bool
has_start_if_any plan S c o None = has_start plan S c o (row_of c).rank
has_start_if_any plan S c o (Some r) = has_start_for plan S o r.id.0 (row_of c).rank

-- ---- events

-- an event that may come has a place among the candidates, a row for each kind of event
abbrev pub has_place : {A : Type 0} → Plan → State A → Event → Bool
has_place plan S (event.Start cpu c o r) = has_start_if_any plan S c o.id.0 r
has_place plan S (event.Local cpu line) = is_cpu plan cpu
has_place plan S (event.Log cpu v) = is_cpu plan cpu
has_place plan S (event.Spend cpu n) = is_cpu plan cpu
has_place plan S (event.Register cpu a k v) = is_cpu plan cpu
has_place plan S (event.Did cpu c v) = is_cpu plan cpu
has_place plan S (event.Waiting cpu c) = is_cpu plan cpu
has_place plan S (event.Woke cpu c v) = is_cpu plan cpu
has_place plan S (event.Park cpu f) = is_cpu plan cpu
has_place plan S (event.Unpark cpu f) = is_cpu plan cpu
has_place plan S (event.End cpu c o v) = is_cpu plan cpu
has_place plan S (event.Fault cpu x line) = is_cpu plan cpu
has_place plan S (event.Stage d s i) = is_declared_id plan d.id.0
has_place plan S (event.Complete r s) = nat_lt r.id.0 (length S.requests.all)
has_place plan S (event.Cleanup o) = nat_lt o.id.0 (next_id S.tree)
has_place plan S (event.Destroy o) = nat_lt o.id.0 (next_id S.tree)
has_place plan S (event.Posted agent p answer) = nat_lt agent (length S.agents)
has_place plan S (event.Tick time) = false
