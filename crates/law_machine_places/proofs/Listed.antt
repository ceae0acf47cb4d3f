-- Each candidate has a place.
use Rattle.std.proofs.Common.{if◌then◌else◌, ◌≡◌, inl, inr, ℕ, ◌+◌, ◌==◌, ◌<◌, Bool, true, false, ◌&&◌, List, [], ◌∷◌, length, slice_get, Option, Some, None, is_some, option_map, refl, sym, ap, subst, ◌∙◌, arith}
use Rattle.std.specs.Prelude.{nat_lt}
use Rattle.std.specs.Option.{option_and_then}
use Rattle.std.specs.List.{flat_map, range_with_len}
use Rattle.std.proofs.lemmas.Bool.{eqb-true, lt-ltb}
use Rattle.wdf_base.specs.Meaning.{Meaning}
use Rattle.wdf_base.specs.Callbacks.{row_of, dpc_function}
use Rattle.wdf_base.specs.Plan.{declared_of}
use Rattle.wdf_base.specs.Same.{same_callback}
use Rattle.wdf_base.specs.declared.call.Callback.{Callback}
use Rattle.wdf_base.specs.declared.call.Callback.TheVariants as callback
use Rattle.wdf_base.specs.declared.declared.Declared.{Declared}
use Rattle.wdf_base.specs.declared.declared.Declared.TheVariants as declared
use Rattle.wdf_base.specs.declared.declared.InterruptInfo.{InterruptInfo}
use Rattle.wdf_base.specs.declared.event.Event.{Event}
use Rattle.wdf_base.specs.declared.event.Event.TheVariants as event
use Rattle.wdf_base.specs.declared.event.Fault.{Fault}
use Rattle.wdf_base.specs.declared.event.Step.{Step}
use Rattle.wdf_base.specs.declared.event.Step.TheVariants as step
use Rattle.wdf_base.specs.declared.frame.Frame.{Frame}
use Rattle.wdf_base.specs.declared.frame.Intent.{Intent}
use Rattle.wdf_base.specs.declared.frame.Intent.TheVariants as intent
use Rattle.wdf_base.specs.declared.frame.Pending.{Pending}
use Rattle.wdf_base.specs.declared.object.Place.{Place}
use Rattle.wdf_base.specs.declared.object.Place.TheVariants as place
use Rattle.wdf_base.specs.declared.plan.Plan.{Plan}
use Rattle.wdf_base.specs.declared.rank.Rank.{Rank}
use Rattle.wdf_base.specs.declared.rank.Rank.TheVariants as rank
use Rattle.wdf_model.specs.Ids.{cpu_of}
use Rattle.wdf_model.specs.Plans.{as_device, as_interrupt, declared_ids, declares, device_of, handler_for, interrupt_of, is_interrupt_of, queue_of, target_of, targets_of, typed_handler}
use Rattle.wdf_model.specs.State.{State, handle_in}
use Rattle.wdf_model.specs.declared.entries.Sending.{Sending}
use Rattle.wdf_model.specs.declared.entries.Timed.{Timed}
use Rattle.wdf_model.specs.declared.enums.Group.{Group}
use Rattle.wdf_model.specs.declared.enums.Group.TheVariants as group
use Rattle.wdf_model.specs.parts.Cpus.{frame_of, top}
use Rattle.wdf_model.specs.parts.Deferred.Dpcs.{dpc_head}
use Rattle.wdf_model.specs.parts.Pnp.{next_step}
use Rattle.wdf_model.specs.parts.Queues.{front}
use Rattle.wdf_model.specs.parts.Requests.{info_of, place_of}
use Rattle.wdf_model.specs.parts.Targets.{the_target}
use Rattle.wdf_model.specs.parts.Tree.{kind_of}
use Rattle.wdf_model.specs.rules.Calls.{is_met, is_met_then}
use Rattle.wdf_model.specs.rules.Faults.{fault_of}
use Rattle.wdf_model.specs.rules.Groups.{RANKS, candidate, candidates, candidates_in, completion_at, declared_end, groups, groups_for, groups_of_cpu, groups_of_rank, handler_start, if_there, parks, places_for, places_in, places_of_rank, posted, queues_in, stage_of_step, start_at, start_for, start_of_step, starts, starts_for, unparks}
use Rattle.wdf_model.specs.rules.Posts.{due_of}
use Rattle.wdf_model.specs.rules.Script.{intent_of}
use Rattle.wdf_model.specs.rules.Steps.{event_of_frame, event_of_top, fault_event, intent_event, spends, view_of}
use Rattle.wdf_model.proofs.Sames.{callback_decides}
use Rattle.wdf_model.proofs.Tests.{both, itself}
use Rattle.law_stuck_causes.proofs.Members.{Has, below_range}
use Rattle.law_machine_once.specs.Owned.{IsStepOf, StepsOwned}
use Rattle.law_machine_places.specs.Placed.{device_of_step, has_place, has_queue, has_start, has_start_for, has_target, is_declared_id, is_step_on}
use Rattle.law_machine_places.proofs.Members.{chosen_at, given_by, image_of, was_there}
use Rattle.law_machine_once.proofs.Places.{dpc_rank, handler_by, if_some, none_is, some_is}
use Rattle.law_stuck_causes.proofs.Gives.{has_either}

-- ---- which groups a plan has

abbrev has_object : Plan → Rank → ℕ → Bool
has_object plan rank.Completion o = has_target plan o
has_object plan rank.Cancel o = has_queue plan o
has_object plan rank.CanceledOnQueue o = has_queue plan o
has_object plan rank.Stop o = has_queue plan o
has_object plan rank.Resume o = has_queue plan o
has_object plan _ o = false

abbrev is_plan_group : Plan → Group → Bool
is_plan_group plan (group.OwnEvent cpu) = nat_lt cpu plan.cpus
is_plan_group plan (group.Parks cpu) = nat_lt cpu plan.cpus
is_plan_group plan (group.Unparks cpu) = nat_lt cpu plan.cpus
is_plan_group plan (group.StartsFor cpu r o) = has_object plan r o
is_plan_group plan _ = true

queue_there : (plan : Plan) (q : ℕ) → Has q (queues_in plan) → has_queue plan q ≡ true
queue_there plan q h =
    let was = was_there (λ id. is_some (queue_of plan id)) q (declared_ids plan) h in
    both (is_some (queue_of plan q)) (is_declared_id plan q) was.1 (lt-ltb q (declared_end plan) (let low : q < 0 + declared_end plan = below_range q 0 (declared_end plan) was.0 in omega (arith, low)))

target_there : (plan : Plan) (t : ℕ) → Has t (targets_of plan) → has_target plan t ≡ true
target_there plan t h =
    let was = was_there (λ id. is_some (target_of plan id)) t (declared_ids plan) h in
    both (is_some (target_of plan t)) (is_declared_id plan t) was.1 (lt-ltb t (declared_end plan) (let low : t < 0 + declared_end plan = below_range t 0 (declared_end plan) was.0 in omega (arith, low)))

-- a group for one of these objects
group_for : (plan : Plan) (cpu : ℕ) (r : Rank) (os : List ℕ) (g : Group) → ((o : ℕ) → Has o os → has_object plan r o ≡ true) → Has g (groups_for cpu r os) → is_plan_group plan g ≡ true
group_for plan cpu r os g each h = let im = image_of (λ o. group.StartsFor cpu r o) g os h in rw im.is (each im.from im.there)

group_of_rank : (plan : Plan) (cpu : ℕ) (r : Rank) (g : Group) → Has g (groups_of_rank plan cpu r) → is_plan_group plan g ≡ true
group_of_rank plan cpu rank.Completion g h = group_for plan cpu rank.Completion (targets_of plan) g (target_there plan) h
group_of_rank plan cpu rank.Cancel g h = group_for plan cpu rank.Cancel (queues_in plan) g (queue_there plan) h
group_of_rank plan cpu rank.CanceledOnQueue g h = group_for plan cpu rank.CanceledOnQueue (queues_in plan) g (queue_there plan) h
group_of_rank plan cpu rank.Stop g h = group_for plan cpu rank.Stop (queues_in plan) g (queue_there plan) h
group_of_rank plan cpu rank.Resume g h = group_for plan cpu rank.Resume (queues_in plan) g (queue_there plan) h
group_of_rank plan cpu _ g (inl e) = rw e refl
group_of_rank plan cpu _ g (inr h) = absurd h

group_of_cpu : (plan : Plan) (cpu : ℕ) (g : Group) → nat_lt cpu plan.cpus ≡ true → Has g (groups_of_cpu plan cpu) → is_plan_group plan g ≡ true
group_of_cpu plan cpu g low (inl e) = rw e low
group_of_cpu plan cpu g low (inr (inl e)) = rw e low
group_of_cpu plan cpu g low (inr (inr (inl e))) = rw e low
group_of_cpu plan cpu g low (inr (inr (inr h))) = let one = given_by (groups_of_rank plan cpu) g RANKS h in group_of_rank plan cpu one.from g one.gives

last_group : (plan : Plan) (g : Group) → Has g (group.Stages ∷ group.Completions ∷ group.Cleanups ∷ group.Destroys ∷ group.Posts ∷ []) → is_plan_group plan g ≡ true
last_group plan g (inl e) = rw e refl
last_group plan g (inr (inl e)) = rw e refl
last_group plan g (inr (inr (inl e))) = rw e refl
last_group plan g (inr (inr (inr (inl e)))) = rw e refl
last_group plan g (inr (inr (inr (inr (inl e))))) = rw e refl
last_group plan g (inr (inr (inr (inr (inr h))))) = absurd h

group_there : (plan : Plan) (g : Group) → Has g (groups plan) → is_plan_group plan g ≡ true
group_there plan g h =
    elim (has_either g (flat_map (groups_of_cpu plan) (range_with_len 0 plan.cpus)) (group.Stages ∷ group.Completions ∷ group.Cleanups ∷ group.Destroys ∷ group.Posts ∷ []) h) as (λ _. is_plan_group plan g ≡ true) [
      | inl k ↦
          let one = given_by (groups_of_cpu plan) g (range_with_len 0 plan.cpus) k in
          let below : one.from < 0 + plan.cpus = below_range one.from 0 plan.cpus one.there in
          group_of_cpu plan one.from g (lt-ltb one.from plan.cpus (omega (arith, below))) one.gives
      | inr k ↦ last_group plan g k
    ]

-- ---- answers that are there

record Mapped {X Y : Type 0} (f : X → Y) (o : Option X) (e : Y) : Type 0 where
  from : X
  there : o ≡ Some from
  gives : f from ≡ e

mapped_is : {X Y : Type 0} (f : X → Y) (o : Option X) (e : Y) → option_map f o ≡ Some e → Mapped f o e
mapped_is f None e h = absurd (none_is e h)
mapped_is f (Some x) e h = record { from = x; there = refl; gives = some_is (f x) e h }

record Then {X Y : Type 0} (f : X → Option Y) (o : Option X) (e : Y) : Type 0 where
  from : X
  there : o ≡ Some from
  gives : f from ≡ Some e

then_is : {X Y : Type 0} (f : X → Option Y) (o : Option X) (e : Y) → option_and_then f o ≡ Some e → Then f o e
then_is f None e h = absurd (none_is e h)
then_is f (Some x) e h = record { from = x; there = refl; gives = h }

record There (b : Bool) (x e : Event) : Type 0 where
  yes_it_is : b ≡ true
  gives : x ≡ e

there_is : (b : Bool) (x e : Event) → if_there b x ≡ Some e → There b x e
there_is true x e h = record { yes_it_is = refl; gives = some_is x e h }
there_is false x e h = absurd (none_is e h)

-- ---- devices and interrupts

no_interrupt : (x : Option Declared) → is_some (as_device x) ≡ true → as_interrupt x ≡ None
no_interrupt None h = absurd (let z : ⊥ = cc in z)
no_interrupt (Some (declared.Device d)) h = refl
no_interrupt (Some _) h = absurd (let z : ⊥ = cc in z)

device_is_own : (plan : Plan) (d : ℕ) → is_some (device_of plan d) ≡ true → device_of_step plan d ≡ d
device_is_own plan d h = let none : interrupt_of plan d ≡ None = no_interrupt (declared_of plan d) h in rw none refl

owner_by : (plan : Plan) (i d : ℕ) (x : Option InterruptInfo) → interrupt_of plan i ≡ x → is_interrupt_of d x ≡ true → device_of_step plan i ≡ d
owner_by plan i d None e h = absurd (let z : ⊥ = cc in z)
owner_by plan i d (Some x) e h = rw e (eqb-true x.device.0 d h)

module _ {A : Type 0} (plan : Plan) (m : Meaning A) (S : State A) (owned : StepsOwned plan S) where
  -- ---- frames

  placed_or : (cpu : ℕ) (b : Bool) (x y : Event) → has_place plan S x ≡ nat_lt cpu plan.cpus → has_place plan S y ≡ nat_lt cpu plan.cpus → has_place plan S (if b then x else y) ≡ nat_lt cpu plan.cpus
  placed_or cpu true x y h k = h
  placed_or cpu false x y h k = k

  intent_placed : (cpu f : ℕ) (frame : Frame) (i : Intent) → has_place plan S (intent_event plan m S cpu f frame i) ≡ nat_lt cpu plan.cpus
  intent_placed cpu f frame (intent.Do c) = placed_or cpu (is_met_then plan S c) _ _ refl refl
  intent_placed cpu f frame _ = refl

  fault_placed : (cpu f : ℕ) (frame : Frame) (i : Intent) (x : Option Fault) → has_place plan S (fault_event plan m S cpu f frame i x) ≡ nat_lt cpu plan.cpus
  fault_placed cpu f frame i (Some x) = refl
  fault_placed cpu f frame i None = intent_placed cpu f frame i

  frame_placed : (cpu f : ℕ) (frame : Frame) (p : Option Pending) (e : Event) → event_of_frame plan m S cpu f frame p ≡ Some e → has_place plan S e ≡ nat_lt cpu plan.cpus
  frame_placed cpu f frame (Some p) e h = ap (has_place plan S) (sym (if_some (is_met S p.call) (event.Woke (cpu_of cpu) p.call p.answer) e h))
  frame_placed cpu f frame None e h = ap (has_place plan S) (sym (some_is _ e h)) ∙ fault_placed cpu f frame (intent_of plan frame) (fault_of (view_of plan S cpu f) (intent_of plan frame))

  unless_spends : (cpu : ℕ) (b : Bool) (o : Option Event) (e : Event) → (o ≡ Some e → has_place plan S e ≡ nat_lt cpu plan.cpus) → (if b then None else o) ≡ Some e → has_place plan S e ≡ nat_lt cpu plan.cpus
  unless_spends cpu true o e k h = absurd (none_is e h)
  unless_spends cpu false o e k h = k h

  top_placed : (cpu : ℕ) (t : Option ℕ) (e : Event) → event_of_top plan m S cpu t ≡ Some e → has_place plan S e ≡ nat_lt cpu plan.cpus
  top_placed cpu None e h = absurd (none_is e h)
  top_placed cpu (Some f) e h = unless_spends cpu (spends S (frame_of S.cpus f)) _ e (frame_placed cpu f (frame_of S.cpus f) (frame_of S.cpus f).pending e) h

  -- ---- starts

  by_rank : (cpu : ℕ) (c : Callback) (o : ℕ) (r : Rank) → (row_of c).rank ≡ r → has_start plan S c o r ≡ true → has_place plan S (starts plan S cpu c o) ≡ true
  by_rank cpu c o r is h = ap (has_start plan S c o) is ∙ h

  for_rank : (cpu : ℕ) (c : Callback) (o r : ℕ) (k : Rank) → (row_of c).rank ≡ k → has_start_for plan S o r k ≡ true → has_place plan S (starts_for plan S cpu c o r) ≡ true
  for_rank cpu c o r k is h = ap (has_start_for plan S o r) is ∙ h

  step_at : (d k o : ℕ) (c : Callback) (s : Step) → d ≡ k → k < declared_end plan → next_step S.pnp k ≡ Some s → is_step_on k c o (Some s) ≡ true → (is_declared_id plan d && is_step_on d c o (next_step S.pnp d)) ≡ true
  step_at d k o c s e low at on =
      subst (λ x. (is_declared_id plan x && is_step_on x c o (next_step S.pnp x)) ≡ true) (sym e)
      (both (is_declared_id plan k) (is_step_on k c o (next_step S.pnp k)) (lt-ltb k (declared_end plan) low) (ap (is_step_on k c o) at ∙ on))

  step_placed : (cpu k : ℕ) (s : Step) (e : Event) → k < declared_end plan → next_step S.pnp k ≡ Some s → IsStepOf plan k s → start_of_step plan S cpu k s ≡ Some e → has_place plan S e ≡ true
  step_placed cpu k (step.Run c None) e low at own h =
      rw (← some_is (starts plan S cpu c k) e h)
      (by_rank cpu c k rank.Sequence own.0
      (step_at (device_of_step plan k) k k c (step.Run c None) (device_is_own plan k own.1) low at (both (same_callback c c) (k == k) ((callback_decides c c).1 refl) (itself k))))
  step_placed cpu k (step.Run c (Some i)) e low at own h =
      rw (← some_is (starts plan S cpu c i.id.0) e h)
      (by_rank cpu c i.id.0 rank.Sequence own.0
      (step_at (device_of_step plan i.id.0) k i.id.0 c (step.Run c (Some i)) (owner_by plan i.id.0 k (interrupt_of plan i.id.0) refl own.1) low at
      (both (same_callback c c) (i.id.0 == i.id.0) ((callback_decides c c).1 refl) (itself i.id.0))))
  step_placed cpu k (step.Pass s i) e low at own h = absurd (none_is e h)

  start_placed : (cpu : ℕ) (r : Rank) (k : ℕ) (e : Event) → k < places_of_rank plan S r → start_at plan S cpu r k ≡ Some e → has_place plan S e ≡ true
  start_placed cpu rank.Isr k e low h =
      let p = there_is (is_some (interrupt_of plan k)) (starts plan S cpu callback.EvtInterruptIsr k) e h in
      rw (← p.gives) (both (is_some (interrupt_of plan k)) (is_declared_id plan k) p.yes_it_is (lt-ltb k (declared_end plan) low))
  start_placed cpu rank.Deferred k e low h =
      let p = mapped_is (λ o. starts plan S cpu (dpc_function (kind_of S.tree o)) o) (dpc_head S.dpcs cpu) e h in
      rw (← p.gives) (by_rank cpu (dpc_function (kind_of S.tree p.from)) p.from rank.Deferred (dpc_rank (kind_of S.tree p.from)) ((callback_decides (dpc_function (kind_of S.tree p.from)) (dpc_function (kind_of S.tree p.from))).1 refl))
  start_placed cpu rank.Timed k e low h = let p = mapped_is (λ (t : Timed). starts plan S cpu callback.EvtTimerFunc t.timer.0) (slice_get S.timers.queued k) e h in rw (← p.gives) refl
  start_placed cpu rank.QueueState k e low h =
      let p = there_is (is_some (queue_of plan k)) (starts plan S cpu callback.EvtIoQueueState k) e h in
      rw (← p.gives) (both (is_some (queue_of plan k)) (is_declared_id plan k) p.yes_it_is (lt-ltb k (declared_end plan) low))
  start_placed cpu rank.Handler k e low h =
      let p = then_is (handler_start plan S cpu k) (front S.queues k) e h in
      let q = mapped_is (λ c. starts_for plan S cpu c k p.from) (handler_for plan k (info_of S.requests p.from).form) e p.gives in
      rw (← q.gives)
      (for_rank cpu q.from k p.from rank.Handler
      (handler_by (info_of S.requests p.from).form (declares plan (typed_handler (info_of S.requests p.from).form) k) (declares plan callback.EvtIoDefault k) q.from q.there) (lt-ltb k (declared_end plan) low))
  start_placed cpu rank.Sequence k e low h = let p = then_is (start_of_step plan S cpu k) (next_step S.pnp k) e h in step_placed cpu k p.from e low p.there (owned.next k p.from p.there) p.gives
  start_placed cpu rank.Work k e low h = let p = mapped_is (λ o. starts plan S cpu callback.EvtWorkItem o) (slice_get S.work_items.queued k) e h in rw (← p.gives) refl
  start_placed cpu rank.Cleanup k e low h = rw (← some_is (starts plan S cpu callback.EvtCleanupCallback k) e h) (lt-ltb k (places_of_rank plan S rank.Cleanup) low)
  start_placed cpu rank.Destroy k e low h = rw (← some_is (starts plan S cpu callback.EvtDestroyCallback k) e h) (lt-ltb k (places_of_rank plan S rank.Destroy) low)
  start_placed cpu _ k e low h = absurd (none_is e h)

  queue_placed : (o k : ℕ) (r : Rank) → has_queue plan o ≡ true → k < places_for plan S r o → (has_queue plan o && nat_lt k (places_for plan S r o)) ≡ true
  queue_placed o k r h low = both (has_queue plan o) (nat_lt k (places_for plan S r o)) h (lt-ltb k (places_for plan S r o) low)

  start_for_placed : (cpu : ℕ) (r : Rank) (o k : ℕ) (e : Event) → has_object plan r o ≡ true → k < places_for plan S r o → start_for plan S cpu r o k ≡ Some e → has_place plan S e ≡ true
  start_for_placed cpu rank.Completion o k e is low h =
      let p = mapped_is (λ (s : Sending). starts_for plan S cpu callback.EvtRequestCompletion o s.request.0) (slice_get (the_target S.targets o).sent k) e h in
      rw (← p.gives) is
  start_for_placed cpu rank.Cancel o k e is low h = rw (← some_is (starts_for plan S cpu callback.EvtRequestCancel o k) e h) (queue_placed o k rank.Cancel is low)
  start_for_placed cpu rank.CanceledOnQueue o k e is low h = rw (← some_is (starts_for plan S cpu callback.EvtIoCanceledOnQueue o k) e h) (queue_placed o k rank.CanceledOnQueue is low)
  start_for_placed cpu rank.Stop o k e is low h = rw (← some_is (starts_for plan S cpu callback.EvtIoStop o k) e h) (queue_placed o k rank.Stop is low)
  start_for_placed cpu rank.Resume o k e is low h = rw (← some_is (starts_for plan S cpu callback.EvtIoResume o k) e h) (queue_placed o k rank.Resume is low)
  start_for_placed cpu _ o k e is low h = absurd (let z : ⊥ = cc in z)

  -- ---- the framework and the agents

  stage_placed : (k : ℕ) (s : Step) (e : Event) → k < declared_end plan → stage_of_step plan S k s ≡ Some e → has_place plan S e ≡ true
  stage_placed k (step.Run c i) e low h = absurd (none_is e h)
  stage_placed k (step.Pass s i) e low h = rw (← some_is (event.Stage (handle_in plan S k) s i) e h) (lt-ltb k (declared_end plan) low)

  completion_placed : (k : ℕ) (p : Place) (e : Event) → k < length S.requests.all → completion_at plan S k p ≡ Some e → has_place plan S e ≡ true
  completion_placed k (place.Closing s) e low h = rw (← some_is (event.Complete (handle_in plan S k) s) e h) (lt-ltb k (length S.requests.all) low)
  completion_placed k _ e low h = absurd (none_is e h)

  -- ---- all groups

  placed_in : (g : Group) (k : ℕ) (e : Event) → is_plan_group plan g ≡ true → k < places_in plan S g → candidate plan m S g k ≡ Some e → has_place plan S e ≡ true
  placed_in (group.OwnEvent cpu) k e is low h = top_placed cpu (top S.cpus cpu) e h ∙ is
  placed_in (group.Parks cpu) k e is low h = rw (← (mapped_is (parks cpu) (top S.cpus cpu) e h).gives) is
  placed_in (group.Unparks cpu) k e is low h = rw (← (mapped_is (unparks cpu) (slice_get S.cpus.parked k) e h).gives) is
  placed_in (group.Starts cpu r) k e is low h = start_placed cpu r k e low h
  placed_in (group.StartsFor cpu r o) k e is low h = start_for_placed cpu r o k e is low h
  placed_in group.Stages k e is low h = let p = then_is (stage_of_step plan S k) (next_step S.pnp k) e h in stage_placed k p.from e low p.gives
  placed_in group.Completions k e is low h = completion_placed k (place_of S.requests k) e low h
  placed_in group.Cleanups k e is low h = rw (← some_is (event.Cleanup (handle_in plan S k)) e h) (lt-ltb k (places_in plan S group.Cleanups) low)
  placed_in group.Destroys k e is low h = rw (← some_is (event.Destroy (handle_in plan S k)) e h) (lt-ltb k (places_in plan S group.Destroys) low)
  placed_in group.Posts k e is low h = rw (← (mapped_is (posted plan S k) (due_of m S k) e h).gives) (lt-ltb k (length S.agents) low)

  pub has_its_place : (e : Event) → Has e (candidates plan m S) → has_place plan S e ≡ true
  has_its_place e h =
      let one = given_by (candidates_in plan m S) e (groups plan) h in
      let at = chosen_at (candidate plan m S one.from) 0 (places_in plan S one.from) e one.gives in
      let below : at.at < 0 + places_in plan S one.from = at.below in
      placed_in one.from at.at e (group_there plan one.from one.there) (omega (arith, below)) at.gives
