-- The candidates for the next event, by groups, in the order in which a run lists them. (own)
use Rattle.std.specs.Prelude.{ℕ, suc, Bool, true, false, List, [], ◌∷◌, ◌++◌, length, map, filter, Option, Some, None, is_some, option_map, option_and_then, slice_get}
use Rattle.std.specs.List.{filter_map, flat_map, list_any, range_with_len}
use Rattle.wdf_base.specs.Meaning.{Meaning}
use Rattle.wdf_base.specs.declared.plan.Plan.{Plan}
use Rattle.wdf_base.specs.declared.object.Place.{Place}
use Rattle.wdf_base.specs.declared.object.Place.TheVariants as place
use Rattle.wdf_base.specs.declared.call.Callback.{Callback}
use Rattle.wdf_base.specs.declared.call.Callback.TheVariants as callback
use Rattle.wdf_base.specs.declared.rank.Rank.{Rank}
use Rattle.wdf_base.specs.declared.rank.Rank.TheVariants as rank
use Rattle.wdf_base.specs.declared.event.Event.{Event}
use Rattle.wdf_base.specs.declared.event.Event.TheVariants as event
use Rattle.wdf_base.specs.declared.event.Post.{Post}
use Rattle.wdf_base.specs.declared.event.Step.{Step}
use Rattle.wdf_base.specs.declared.event.Step.TheVariants as step
use Rattle.wdf_base.specs.Same.{same_callback}
use Rattle.wdf_base.specs.Callbacks.{dpc_function}
use Rattle.wdf_model.specs.Ids.{cpu_of}
use Rattle.wdf_model.specs.declared.enums.Group.{Group}
use Rattle.wdf_model.specs.declared.enums.Group.TheVariants as group
use Rattle.wdf_model.specs.declared.entries.Timed.{Timed}
use Rattle.wdf_model.specs.declared.entries.Sending.{Sending}
use Rattle.wdf_model.specs.Plans.{declares, handler_for, interrupt_of, queue_of, targets_of, declared_ids}
use Rattle.wdf_model.specs.parts.Tree.{kind_of, next_id}
use Rattle.wdf_model.specs.parts.Cpus.{top}
use Rattle.wdf_model.specs.parts.Requests.{info_of, place_of}
use Rattle.wdf_model.specs.parts.Queues.{front}
use Rattle.wdf_model.specs.parts.Pnp.{next_step}
use Rattle.wdf_model.specs.parts.Deferred.Dpcs.{dpc_head}
use Rattle.wdf_model.specs.parts.Targets.{the_target}
use Rattle.wdf_model.specs.State.{State, handle_in}
use Rattle.wdf_model.specs.rules.Posts.{due_of, post_answer}
use Rattle.wdf_model.specs.rules.Steps.{own_event}

-- ---- the groups

-- the ranks of callbacks, in the order of their starts: service routines first, destroy callbacks last
abbrev pub RANKS : List Rank
RANKS =
    rank.Isr ∷ rank.Deferred ∷ rank.Timed ∷ rank.Completion ∷ rank.Cancel ∷ rank.CanceledOnQueue ∷ rank.Stop ∷ rank.Resume
    ∷ rank.QueueState ∷ rank.Handler ∷ rank.Sequence ∷ rank.Work ∷ rank.Cleanup ∷ rank.Destroy ∷ []

-- the ids of the declared queues, rising
abbrev pub queues_in : Plan → List ℕ
queues_in plan = filter (λ id. is_some (queue_of plan id)) (declared_ids plan)

-- the starts of rank r on processor cpu for requests: a group for each of these objects, which are queues, or
-- targets
abbrev pub groups_for : ℕ → Rank → List ℕ → List Group
groups_for cpu r objects = map (λ o. group.StartsFor cpu r o) objects

-- the groups of one rank on processor cpu. Completion routines have one for each target; the four rows after that
-- one for each queue; every other rank has a single group.
abbrev pub groups_of_rank : Plan → ℕ → Rank → List Group
groups_of_rank plan cpu rank.Completion = groups_for cpu rank.Completion (targets_of plan)
groups_of_rank plan cpu rank.Cancel = groups_for cpu rank.Cancel (queues_in plan)
groups_of_rank plan cpu rank.CanceledOnQueue = groups_for cpu rank.CanceledOnQueue (queues_in plan)
groups_of_rank plan cpu rank.Stop = groups_for cpu rank.Stop (queues_in plan)
groups_of_rank plan cpu rank.Resume = groups_for cpu rank.Resume (queues_in plan)
-- handlers too: a queue has only its front request to present
groups_of_rank plan cpu r = group.Starts cpu r ∷ []

-- the groups of processor cpu: its top frame's event, its leaving, those that come back, and the starts by rank
abbrev pub groups_of_cpu : Plan → ℕ → List Group
groups_of_cpu plan cpu = group.OwnEvent cpu ∷ group.Parks cpu ∷ group.Unparks cpu ∷ flat_map (groups_of_rank plan cpu) RANKS

-- all groups: the processors from 0 up, then the framework, then the agents
abbrev pub groups : Plan → List Group
groups plan =
    flat_map (groups_of_cpu plan) (range_with_len 0 plan.cpus)
    ++ group.Stages ∷ group.Completions ∷ group.Cleanups ∷ group.Destroys ∷ group.Posts ∷ []

-- ---- how many places each has

-- the first id that no declared object has; so many places let each declared id be a place, and the id 0 too
abbrev pub declared_end : Plan → ℕ
declared_end plan = suc (length plan.declared)

-- n places, or none where the callback of the rank is declared nowhere
abbrev pub places_if : Bool → ℕ → ℕ
places_if true n = n
places_if false n = 0

-- some object or class of the plan declares callback c
abbrev pub is_declared_somewhere : Plan → Callback → Bool
is_declared_somewhere plan c = list_any (λ s. same_callback s.callback c) plan.scripts

-- how many places the starts of a rank have on a processor
abbrev pub places_of_rank : {A : Type 0} → Plan → State A → Rank → ℕ
-- the first of the processor's DPC list alone
places_of_rank plan S rank.Deferred = 1
-- one for each queued timer
places_of_rank plan S rank.Timed = length S.timers.queued
-- one for each queued work item
places_of_rank plan S rank.Work = length S.work_items.queued
-- one for each id that was ever given out
places_of_rank plan S rank.Cleanup = places_if (is_declared_somewhere plan callback.EvtCleanupCallback) (next_id S.tree)
-- the same
places_of_rank plan S rank.Destroy = places_if (is_declared_somewhere plan callback.EvtDestroyCallback) (next_id S.tree)
-- one for each declared id
places_of_rank plan S _ = declared_end plan

-- the callback of a rank whose starts are for a request; handlers aren't here, since the request's type names those
abbrev pub callback_for : Rank → Callback
callback_for rank.Cancel = callback.EvtRequestCancel
callback_for rank.CanceledOnQueue = callback.EvtIoCanceledOnQueue
callback_for rank.Stop = callback.EvtIoStop
callback_for rank.Resume = callback.EvtIoResume
-- completion routines have rows of their own where this is used; no other rank comes here
callback_for _ = callback.EvtRequestCompletion

-- how many places the starts of a rank for the requests of object o have
abbrev pub places_for : {A : Type 0} → Plan → State A → Rank → ℕ → ℕ
-- one for each request that is sent to target o
places_for plan S rank.Completion o = length (the_target S.targets o).sent
-- one for each request id, if queue o declares the callback
places_for plan S r o = places_if (declares plan (callback_for r) o) (length S.requests.all)

-- how many places each group has; its candidates are looked for there, by rising place
abbrev pub places_in : {A : Type 0} → Plan → State A → Group → ℕ
places_in plan S (group.OwnEvent cpu) = 1
places_in plan S (group.Parks cpu) = 1
places_in plan S (group.Unparks cpu) = length S.cpus.parked
places_in plan S (group.Starts cpu r) = places_of_rank plan S r
places_in plan S (group.StartsFor cpu r o) = places_for plan S r o
places_in plan S group.Stages = declared_end plan
places_in plan S group.Completions = length S.requests.all
places_in plan S group.Cleanups = next_id S.tree
places_in plan S group.Destroys = next_id S.tree
places_in plan S group.Posts = length S.agents

-- ---- the candidate at a place

-- the event that callback c starts on object o, on processor cpu, without a request
abbrev pub starts : {A : Type 0} → Plan → State A → ℕ → Callback → ℕ → Event
starts plan S cpu c o = event.Start (cpu_of cpu) c (handle_in plan S o) None

-- the event that callback c starts on object o for request r, on processor cpu
abbrev pub starts_for : {A : Type 0} → Plan → State A → ℕ → Callback → ℕ → ℕ → Event
starts_for plan S cpu c o r = event.Start (cpu_of cpu) c (handle_in plan S o) (Some (handle_in plan S r))

-- the event e where the thing that it is about is there, else none
abbrev pub if_there : Bool → Event → Option Event
if_there true e = Some e
if_there false e = None

-- the presenting of request r, the front of queue q, on processor cpu; none where q has no handler for its type
abbrev pub handler_start : {A : Type 0} → Plan → State A → ℕ → ℕ → ℕ → Option Event
handler_start plan S cpu q r = option_map (λ c. starts_for plan S cpu c q r) (handler_for plan q (info_of S.requests r).form)

-- the start of a device's step on processor cpu, where the step is a callback: its object is device d, or the
-- interrupt that the step names. None for a stage, which the framework passes.
abbrev pub start_of_step : {A : Type 0} → Plan → State A → ℕ → ℕ → Step → Option Event
start_of_step plan S cpu d (step.Run c None) = Some (starts plan S cpu c d)
start_of_step plan S cpu d (step.Run c (Some i)) = Some (starts plan S cpu c i.id.0)
start_of_step plan S cpu d (step.Pass s i) = None

-- the candidate at place k of the starts of a rank on processor cpu. Place k is the id k, but for timers and work
-- items, where it counts what is queued, and for DPCs, which have one place.
abbrev pub start_at : {A : Type 0} → Plan → State A → ℕ → Rank → ℕ → Option Event
-- interrupt k
start_at plan S cpu rank.Isr k = if_there (is_some (interrupt_of plan k)) (starts plan S cpu callback.EvtInterruptIsr k)
-- the first of the processor's DPC list
start_at plan S cpu rank.Deferred k = option_map (λ o. starts plan S cpu (dpc_function (kind_of S.tree o)) o) (dpc_head S.dpcs cpu)
-- the queued timer at place k
start_at plan S cpu rank.Timed k = option_map (λ (t : Timed). starts plan S cpu callback.EvtTimerFunc t.timer.0) (slice_get S.timers.queued k)
-- queue k
start_at plan S cpu rank.QueueState k = if_there (is_some (queue_of plan k)) (starts plan S cpu callback.EvtIoQueueState k)
-- the front of queue k
start_at plan S cpu rank.Handler k = option_and_then (handler_start plan S cpu k) (front S.queues k)
-- the next step of device k
start_at plan S cpu rank.Sequence k = option_and_then (start_of_step plan S cpu k) (next_step S.pnp k)
-- the queued work item at place k
start_at plan S cpu rank.Work k = option_map (λ o. starts plan S cpu callback.EvtWorkItem o) (slice_get S.work_items.queued k)
-- object k
start_at plan S cpu rank.Cleanup k = Some (starts plan S cpu callback.EvtCleanupCallback k)
-- object k
start_at plan S cpu rank.Destroy k = Some (starts plan S cpu callback.EvtDestroyCallback k)
-- the ranks that have a group for each queue or target
start_at plan S cpu _ k = None

-- the candidate at place k of the starts of a rank for the requests of object o
abbrev pub start_for : {A : Type 0} → Plan → State A → ℕ → Rank → ℕ → ℕ → Option Event
-- by what is sent to target o, the least request id first
start_for plan S cpu rank.Completion o k =
    option_map (λ (s : Sending). starts_for plan S cpu callback.EvtRequestCompletion o s.request.0) (slice_get (the_target S.targets o).sent k)
-- by the request id k
start_for plan S cpu r o k = Some (starts_for plan S cpu (callback_for r) o k)

-- the stage that device d may pass next; none where its step is a callback
abbrev pub stage_of_step : {A : Type 0} → Plan → State A → ℕ → Step → Option Event
stage_of_step plan S d (step.Run c i) = None
stage_of_step plan S d (step.Pass s i) = Some (event.Stage (handle_in plan S d) s i)

-- the completion of request r by the framework, with the status in its place; none where it isn't Closing
abbrev pub completion_at : {A : Type 0} → Plan → State A → ℕ → Place → Option Event
completion_at plan S r (place.Closing s) = Some (event.Complete (handle_in plan S r) s)
completion_at plan S r _ = None

-- the event that the agent with this number posts p, with the answer that the state gives
abbrev pub posted : {A : Type 0} → Plan → State A → ℕ → Post → Event
posted plan S agent p = event.Posted agent p (post_answer plan S agent p)

-- the event that frame f leaves processor cpu
abbrev pub parks : ℕ → ℕ → Event
parks cpu f = event.Park (cpu_of cpu) (record { 0 = f })

-- the event that the parked frame f comes back to processor cpu
abbrev pub unparks : ℕ → ℕ → Event
unparks cpu f = event.Unpark (cpu_of cpu) (record { 0 = f })

-- the candidate at place k of a group, none where nothing is there. Whether it may come is asked afterwards.
abbrev pub candidate : {A : Type 0} → Plan → Meaning A → State A → Group → ℕ → Option Event
candidate plan m S (group.OwnEvent cpu) k = own_event plan m S cpu
candidate plan m S (group.Parks cpu) k = option_map (parks cpu) (top S.cpus cpu)
candidate plan m S (group.Unparks cpu) k = option_map (unparks cpu) (slice_get S.cpus.parked k)
candidate plan m S (group.Starts cpu r) k = start_at plan S cpu r k
candidate plan m S (group.StartsFor cpu r o) k = start_for plan S cpu r o k
candidate plan m S group.Stages k = option_and_then (stage_of_step plan S k) (next_step S.pnp k)
candidate plan m S group.Completions k = completion_at plan S k (place_of S.requests k)
candidate plan m S group.Cleanups k = Some (event.Cleanup (handle_in plan S k))
candidate plan m S group.Destroys k = Some (event.Destroy (handle_in plan S k))
candidate plan m S group.Posts k = option_map (posted plan S k) (due_of m S k)

-- the candidates of a group g, by rising place
abbrev pub candidates_in : {A : Type 0} → Plan → Meaning A → State A → Group → List Event
candidates_in plan m S g = filter_map (candidate plan m S g) (range_with_len 0 (places_in plan S g))

-- all candidates, in their order
abbrev pub candidates : {A : Type 0} → Plan → Meaning A → State A → List Event
candidates plan m S = flat_map (candidates_in plan m S) (groups plan)
