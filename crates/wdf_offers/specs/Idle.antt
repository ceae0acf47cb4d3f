-- When nothing may come of a group, as levels and counts say without a look at its places; and of which places of a
-- group for requests something may come. (own)
use Rattle.std.specs.Prelude.{if◌then◌else◌, ℕ, Bool, true, false, not, ◌&&◌, ◌||◌, nat_lt, length, Option, Some, None, slice_get}
use Rattle.std.specs.List.{list_any}
use Rattle.wdf_base.specs.Callbacks.{row_of}
use Rattle.wdf_base.specs.Same.{same_option, same_step}
use Rattle.wdf_base.specs.declared.plan.Plan.{Plan}
use Rattle.wdf_base.specs.declared.ids.Irql.{Irql}
use Rattle.wdf_base.specs.declared.call.Callback.TheVariants as callback
use Rattle.wdf_base.specs.declared.event.Stage.TheVariants as stage
use Rattle.wdf_base.specs.declared.event.Step.TheVariants as step
use Rattle.wdf_base.specs.declared.rank.Rank.{Rank}
use Rattle.wdf_base.specs.declared.rank.Rank.TheVariants as rank
use Rattle.wdf_base.specs.Places.{is_returning_to}
use Rattle.wdf_base.specs.Lives.{is_cleaned}
use Rattle.wdf_model.specs.declared.entries.Holding.{Holding}
use Rattle.wdf_model.specs.declared.entries.Request.{Request}
use Rattle.wdf_model.specs.declared.entries.Sending.{Sending}
use Rattle.wdf_model.specs.declared.entries.Timed.{Timed}
use Rattle.wdf_model.specs.declared.enums.Group.{Group}
use Rattle.wdf_model.specs.declared.enums.Group.TheVariants as group
use Rattle.wdf_model.specs.Plans.{callback_irql, is_managed}
use Rattle.wdf_model.specs.State.{State}
use Rattle.wdf_model.specs.parts.Cpus.{is_empty_cpu}
use Rattle.wdf_model.specs.parts.Control.{notify_due}
use Rattle.wdf_model.specs.parts.Deferred.Timers.{timer_due}
use Rattle.wdf_model.specs.parts.Interrupts.{is_enabled}
use Rattle.wdf_model.specs.parts.Pnp.{next_step, steps_left}
use Rattle.wdf_model.specs.parts.Queues.{is_empty_queue, is_free}
use Rattle.wdf_model.specs.parts.Targets.{the_target}
use Rattle.wdf_model.specs.parts.Tree.{counts, life_of, may_clean, nearest_device, node_of}
use Rattle.wdf_model.specs.rules.Groups.{callback_for, places_in}
use Rattle.wdf_model.specs.rules.Starts.{level_fits, rank_ready_for}
use Rattle.wdf_offers.specs.Parked.{all_blocked}

-- ---- levels

-- the highest level of a rank's callbacks, none where it is that of an interrupt
abbrev pub highest_level : Rank → Option Irql
highest_level rank.Isr = None
highest_level rank.Sequence = None
highest_level rank.Work = Some (record { 0 = 0 })
highest_level rank.Cleanup = Some (record { 0 = 0 })
highest_level rank.Destroy = Some (record { 0 = 0 })
highest_level _ = Some (record { 0 = 2 })

-- no callback of up to this level may start on a processor
abbrev pub is_too_high : {A : Type 0} → State A → ℕ → Option Irql → Bool
is_too_high S cpu None = false
is_too_high S cpu (Some level) = not (level_fits S cpu level.0)

-- ---- what a queue's requests wait for

-- the next step of a device is that its power-managed queues have settled
abbrev pub settles_next : {A : Type 0} → State A → ℕ → Bool
settles_next S d = same_option same_step (next_step S.pnp d) (Some (step.Pass stage.Settled None))

-- a queue is power-managed, and its device is between `queues_down` and `settled`
abbrev pub is_stopping : {A : Type 0} → Plan → State A → ℕ → Bool
is_stopping plan S q = is_managed plan q && settles_next S (nearest_device S.tree q)

-- the due tick of the timer at a place, if there is one, is reached
abbrev pub is_timer_due : {A : Type 0} → State A → Option Timed → Bool
is_timer_due S None = false
is_timer_due S (Some t) = timer_due S.timers t.timer.0 S.clock

-- a callback of a rank can start at a place, as one part says: of a service routine the interrupt is enabled, a
-- notification is due, for a handler a request waits and the queue is free, a step is left; of the queued timer at the
-- place the due tick is reached. A cleanup callback may start on what is Asked and has its turn, a destroy callback on what
-- is cleaned, neither on an arrived request.
abbrev pub can_start_at : {A : Type 0} → State A → Rank → ℕ → Bool
can_start_at S rank.Isr i = is_enabled S.interrupts i
can_start_at S rank.QueueState q = notify_due S.control q
can_start_at S rank.Handler q = not (is_empty_queue S.queues q) && is_free S.queues q
can_start_at S rank.Sequence d = nat_lt 0 (length (steps_left S.pnp d))
can_start_at S rank.Timed k = is_timer_due S (slice_get S.timers.queued k)
can_start_at S rank.Cleanup o = may_clean S.tree o && counts (node_of S.tree o)
can_start_at S rank.Destroy o = is_cleaned (life_of S.tree o) && counts (node_of S.tree o)
can_start_at S _ o = true

-- a callback of a rank for requests can be due on an object
abbrev pub can_be_due : {A : Type 0} → Plan → State A → Rank → ℕ → Bool
can_be_due plan S rank.CanceledOnQueue q = list_any (λ (r : Request). is_returning_to q r.place) S.requests.all
can_be_due plan S rank.Stop q = is_stopping plan S q
can_be_due plan S rank.Resume q = list_any (λ (h : Holding). h.resume_due) S.power.holdings
can_be_due plan S _ o = true

-- ---- groups

-- nothing may come of a group
abbrev pub is_idle : {A : Type 0} → Plan → State A → Group → Bool
is_idle plan S (group.Unparks cpu) = not (is_empty_cpu S.cpus cpu) || all_blocked S
is_idle plan S (group.Starts cpu r) = is_too_high S cpu (highest_level r)
is_idle plan S (group.StartsFor cpu r o) = not (level_fits S cpu (callback_irql plan (callback_for r) o) && can_be_due plan S r o)
is_idle plan S _ = false

-- how many places of a group a search goes over: none of an idle one
abbrev pub search_len : {A : Type 0} → Plan → State A → Group → ℕ
search_len plan S g = if is_idle plan S g then 0 else places_in plan S g

-- ---- places at which something may come

-- the completion routine of what is sent to a target is due
abbrev pub is_sending_due : {A : Type 0} → Plan → State A → ℕ → Option Sending → Bool
is_sending_due plan S t None = false
is_sending_due plan S t (Some s) = rank_ready_for plan S rank.Completion callback.EvtRequestCompletion t s.request.0

-- a callback of a rank is due on an object for the request at a place
abbrev pub is_due_at : {A : Type 0} → Plan → State A → Rank → ℕ → ℕ → Bool
is_due_at plan S rank.Completion t k = is_sending_due plan S t (slice_get (the_target S.targets t).sent k)
is_due_at plan S r q k = rank_ready_for plan S (row_of (callback_for r)).rank (callback_for r) q k
