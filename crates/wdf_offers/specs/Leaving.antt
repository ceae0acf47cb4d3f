-- How objects leave, by a cleanup or by their end, how a work item leaves its queue and a timer fires, as its callback starts:
-- which may by one part alone, what keeps others back, and which may. (own)
use Rattle.std.specs.Prelude.{ℕ, ◌≡◌, Bool, true, false, not, ◌==◌, ◌&&◌, ◌||◌, List, None, count_by, filter, length}
use Rattle.std.specs.List.{list_any}
use Rattle.wdf_base.specs.declared.call.Callback.TheVariants as callback
use Rattle.wdf_base.specs.declared.event.Event.{Event}
use Rattle.wdf_base.specs.declared.event.Event.TheVariants as event
use Rattle.wdf_base.specs.declared.declared.ClassInfo.{ClassInfo}
use Rattle.wdf_base.specs.declared.declared.ClassInfo.TheVariants as class
use Rattle.wdf_base.specs.declared.ids.Handle.{Handle}
use Rattle.wdf_base.specs.declared.object.Kind.TheVariants as kind
use Rattle.wdf_base.specs.declared.plan.Plan.{Plan}
use Rattle.wdf_base.specs.declared.rank.Rank.TheVariants as rank
use Rattle.wdf_base.specs.Same.{same_kind}
use Rattle.wdf_base.specs.Lives.{is_live}
use Rattle.wdf_base.specs.Places.{is_done, is_sent_to}
use Rattle.wdf_model.specs.Tables.{flag, ids_of}
use Rattle.wdf_model.specs.declared.entries.Sending.{Sending}
use Rattle.wdf_model.specs.declared.enums.Group.{Group}
use Rattle.wdf_model.specs.declared.enums.Group.TheVariants as group
use Rattle.wdf_model.specs.Ids.{cpu_of}
use Rattle.wdf_model.specs.State.{State, declares_in, nothing_at}
use Rattle.wdf_model.specs.parts.Cpus.{is_empty_cpu, nobody_on}
use Rattle.wdf_model.specs.parts.Deferred.Timers.{is_timer_queued, timer_due}
use Rattle.wdf_model.specs.parts.Deferred.WorkItems.{is_work_queued}
use Rattle.wdf_model.specs.parts.Tree.{kind_of, life_of, may_clean, may_destroy}
use Rattle.wdf_model.specs.parts.Power.{holding_of}
use Rattle.wdf_model.specs.parts.Requests.{place_of}
use Rattle.wdf_model.specs.parts.Targets.{the_target}
use Rattle.wdf_model.specs.rules.Starts.{callback_over, clean_ready, destroy_ready, level_fits}
use Rattle.wdf_model.specs.rules.Steps.{is_cpu}
use Rattle.wdf_cpu.specs.Occupied.{is_awaited, is_occupied}
use Rattle.wdf_lock.specs.Holds.{is_locked}
use Rattle.wdf_request.specs.Closing.{is_out}
use Rattle.law_machine_base.specs.Agreement.{holding_queue}
use Rattle.wdf_offers.specs.declared.leaving.Leaving.{Leaving}
use Rattle.wdf_offers.specs.declared.leaving.Leaving.TheVariants as leaving

-- the group of its candidates
abbrev pub group_of : Leaving → Group
group_of leaving.Cleanup = group.Cleanups
group_of leaving.Destroy = group.Destroys
group_of (leaving.Work cpu) = group.Starts cpu rank.Work
group_of (leaving.Timed cpu) = group.Starts cpu rank.Timed

-- its event
abbrev pub event_of : Leaving → Handle → Event
event_of leaving.Cleanup o = event.Cleanup o
event_of leaving.Destroy o = event.Destroy o
event_of (leaving.Work cpu) o = event.Start (cpu_of cpu) callback.EvtWorkItem o None
event_of (leaving.Timed cpu) o = event.Start (cpu_of cpu) callback.EvtTimerFunc o None

-- object o may leave so by one part alone: by the tree, as it is queued, or as it is queued and its tick is reached
abbrev pub fits_part : {A : Type 0} → Leaving → State A → ℕ → Bool
fits_part leaving.Cleanup S o = may_clean S.tree o
fits_part leaving.Destroy S o = may_destroy S.tree o
fits_part (leaving.Work cpu) S o = is_work_queued S.work_items o
fits_part (leaving.Timed cpu) S o = timer_due S.timers o S.clock

-- object o may leave so, its callback aside
abbrev pub may_leave : {A : Type 0} → Leaving → State A → ℕ → Bool
may_leave leaving.Cleanup S o = clean_ready S o
may_leave leaving.Destroy S o = destroy_ready S o
may_leave (leaving.Work cpu) S o = is_work_queued S.work_items o && nobody_on S.cpus o
may_leave (leaving.Timed cpu) S o = timer_due S.timers o S.clock && nobody_on S.cpus o

-- the objects that may, by rising id
abbrev pub leavers : {A : Type 0} → Leaving → State A → List ℕ
leavers l S = filter (may_leave l S) (ids_of S.tree.nodes)

-- those that may by one part alone
abbrev pub fitting : {A : Type 0} → Leaving → State A → List ℕ
fitting l S = filter (fits_part l S) (ids_of S.tree.nodes)

-- what can keep object o back beside that part: a frame that is on it, one that waits for it, its lock that is held; or it
-- is a request that is sent. Only a frame that is on it keeps it from its end, a work item in its queue, or a due timer.
abbrev pub is_busy : {A : Type 0} → Leaving → State A → ℕ → Bool
is_busy leaving.Cleanup S o = (is_occupied S.cpus o || is_awaited S.cpus o) || (is_locked S.locks o || is_out S.requests o)
is_busy leaving.Destroy S o = is_occupied S.cpus o
is_busy (leaving.Work cpu) S o = is_occupied S.cpus o
is_busy (leaving.Timed cpu) S o = is_occupied S.cpus o

-- object o may leave so by one part alone, and something else keeps it back
abbrev pub is_kept : {A : Type 0} → Leaving → State A → ℕ → Bool
is_kept l S o = fits_part l S o && not (may_leave l S o)

-- a class says that its objects are serialized
abbrev pub is_serial : ClassInfo → Bool
is_serial (class.Deferred name k parent serialize period) = serialize
is_serial (class.Plain name k) = false

-- no lock keeps queued work or a timer back: none is held, or no class is serialized
abbrev pub is_unlocked : {A : Type 0} → Plan → State A → Bool
is_unlocked plan S = length S.locks.held == 0 || not (list_any is_serial plan.classes)

-- those that may leave so can be counted without a look at each: no callback of theirs keeps one back; of work items and of
-- timers, one may start on the processor, and no lock keeps one back
abbrev pub IsNumbered : {A : Type 0} → Plan → State A → Leaving → Type 0
IsNumbered plan S leaving.Cleanup = (o : ℕ) → may_clean S.tree o ≡ true → callback_over plan S callback.EvtCleanupCallback o ≡ true
IsNumbered plan S leaving.Destroy = (o : ℕ) → may_destroy S.tree o ≡ true → callback_over plan S callback.EvtDestroyCallback o ≡ true
IsNumbered plan S (leaving.Work cpu) = (is_cpu plan (cpu_of cpu) && is_empty_cpu S.cpus cpu && is_unlocked plan S) ≡ true
IsNumbered plan S (leaving.Timed cpu) = (is_cpu plan (cpu_of cpu) && level_fits S cpu 2 && is_unlocked plan S) ≡ true

-- No request of an app is deleted that isn't completed, and nothing to which a request is sent; and what is queued as a work
-- item or as a timer is live: each state of a run is so.
pub record DeletedSettled {A : Type 0} (S : State A) : Type 0 where
  pub done : (r : ℕ) → same_kind (kind_of S.tree r) kind.Request ≡ true → is_live (life_of S.tree r) ≡ false → is_done (place_of S.requests r) ≡ true
  pub nothing : (o : ℕ) → is_live (life_of S.tree o) ≡ false → nothing_at S o ≡ true
  pub works : (o : ℕ) → is_work_queued S.work_items o ≡ true → is_live (life_of S.tree o) ≡ true
  pub timers : (o : ℕ) → is_timer_queued S.timers o ≡ true → is_live (life_of S.tree o) ≡ true

-- The same, and what is queued has its callback; power notes each request as held from the power-managed queue from which
-- the driver holds it; and a target has a request once where that is sent to it, else never (`sent` of `PlacesAgree`).
pub record IsSettled {A : Type 0} (plan : Plan) (S : State A) : Type 0 where
  pub deleted : DeletedSettled S
  pub declared : (o : ℕ) → is_work_queued S.work_items o ≡ true → declares_in plan S callback.EvtWorkItem o ≡ true
  pub timed : (o : ℕ) → is_timer_queued S.timers o ≡ true → declares_in plan S callback.EvtTimerFunc o ≡ true
  pub holdings : (r : ℕ) → (holding_of S.power r).queue.0 ≡ holding_queue plan S r
  pub sent : (t r : ℕ) → count_by (λ (s : Sending). s.request.0 == r) (the_target S.targets t).sent ≡ flag (is_sent_to t (place_of S.requests r))
