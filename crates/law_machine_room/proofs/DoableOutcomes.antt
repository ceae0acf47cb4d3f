-- What the rows of the calls do can be done: objects, requests, queues, deferred work.
use Rattle.std.proofs.Common.{if◌then◌else◌, ◌≡◌, ℕ, ◌<◌, Bool, true, false, not, ◌&&◌, ◌||◌, [], ◌∷◌, length, Option, Some, None, refl, ap, ◌∙◌, arith}
use Rattle.wdf_base.specs.declared.value.Value.TheVariants.{Obj, Stat}
use Rattle.wdf_base.specs.declared.value.Status.TheVariants as status
use Rattle.wdf_base.specs.declared.object.Kind.{Kind}
use Rattle.wdf_base.specs.declared.object.Kind.TheVariants as kind
use Rattle.wdf_base.specs.declared.object.Place.{Place}
use Rattle.wdf_base.specs.declared.object.Place.TheVariants as place
use Rattle.wdf_base.specs.declared.call.Arg.{Arg}
use Rattle.wdf_base.specs.declared.call.Callback.TheVariants as callback
use Rattle.wdf_base.specs.declared.plan.Plan.{Plan}
use Rattle.wdf_base.specs.Same.{same_kind}
use Rattle.wdf_base.specs.Lives.{is_gone, is_live}
use Rattle.wdf_base.specs.Places.{is_owned, is_queued_in, is_sent_to}
use Rattle.wdf_model.specs.Tables.{flag, same_id}
use Rattle.wdf_model.specs.Plans.{declares, is_manual_queue, is_parallel_queue, kind_of_class}
use Rattle.wdf_model.specs.parts.Tree.{gone, is_full, kind_of, life_of}
use Rattle.wdf_model.specs.parts.Requests.{has_arrived, is_cancelled, mark_answer, no_request, place_of}
use Rattle.wdf_model.specs.parts.Queues.{front}
use Rattle.wdf_model.specs.parts.Control.{accepts, is_purged, mode_of}
use Rattle.wdf_model.specs.parts.Interrupts.{is_enabled}
use Rattle.wdf_model.specs.parts.Deferred.Dpcs.{is_dpc_queued}
use Rattle.wdf_model.specs.parts.Deferred.Timers.{is_timer_queued}
use Rattle.wdf_model.specs.parts.Targets.{takes_more}
use Rattle.wdf_model.specs.State.{State, is_with_driver, queue_delivers}
use Rattle.wdf_model.specs.Ids.{cpu_of, object_id}
use Rattle.wdf_model.specs.declared.deed.Deed.TheVariants.{Acknowledge, EnqueueDpc, EnqueueWork, Forward, GiveBack, MarkRequest, RegisterQueue, Requeue, SendRequest, StartTimer}
use Rattle.wdf_base.specs.Values.{arg_is}
use Rattle.wdf_model.specs.rules.Calls.{acknowledge_outcome, create_outcome, creation, dpc_outcome, forward_outcome, forwards_nowhere, isr_dpc_outcome, mark_outcome, may_send, new_handle, notify_outcome, number, origin_or_none, refused, requeue_outcome, retrieve_front, retrieve_outcome, send_outcome, success, timer_outcome, work_outcome}
use Rattle.wdf_model.proofs.Tests.{both_left, both_right, either_false, itself, not_false, not_true}
use Rattle.wdf_model.proofs.Counts.{found_nowhere}
use Rattle.wdf_model.specs.rules.Groups.{declared_end}
use Rattle.wdf_model.specs.rules.Room.{AreDoable, HasRoomForObject, IsQueue, IsRequest, IsThere, MayEnter, MayPurge}
use Rattle.law_machine_room.proofs.Doable.{Fine, apart, arrived_few, clock_small, declared_room, either_doable, inside, may_give_up, objects_few, origin_there, request_here, request_room, room_of}
use Rattle.law_machine_room.proofs.DoableStarts.{held_request, present_doable, waiting_request}
use Rattle.law_machine_room.proofs.DoablePosts.{accepting_queue}
use Rattle.law_machine_base.proofs.KeptByDeeds.{owned_undone}
use Rattle.wdf_model.proofs.FrameCounts.{flag_small}

owned_waits_nowhere : (p : Place) (q : ℕ) → is_owned p ≡ true → is_queued_in q p ≡ false
owned_waits_nowhere (place.Queued x) q h = absurd (let z : ⊥ = cc in z)
owned_waits_nowhere _ q h = refl

owned_sent_nowhere : (p : Place) (t : ℕ) → is_owned p ≡ true → is_sent_to t p ≡ false
owned_sent_nowhere (place.Sent x) t h = absurd (let z : ⊥ = cc in z)
owned_sent_nowhere _ t h = refl

module _ {A : Type 0} {plan : Plan} {S : State A} (k : Fine plan S) where
  -- ---- objects and tables

  pub live_there : (o : ℕ) → is_live (life_of S.tree o) ≡ true → IsThere S o
  live_there o h = inside gone (λ n. is_live n.life) S.tree.nodes o refl h

  pub not_gone_there : (o : ℕ) → is_gone (life_of S.tree o) ≡ false → IsThere S o
  not_gone_there o h = inside gone (λ n. not (is_gone n.life)) S.tree.nodes o refl (ap not h)

  pub queue_there : (q : ℕ) → q < declared_end plan → IsQueue S q
  queue_there q h =
      let controls = k.room.sizes.controls in
      let dispatch = k.room.sizes.dispatch in
      record { dispatch = omega arith; control = omega arith }

  pub target_there : (t : ℕ) → t < declared_end plan → t < length S.targets.targets
  target_there t h = let size = k.room.sizes.targets.many in omega arith

  -- ---- objects are made

  creation_doable : (x : Kind) (class parent : ℕ) → HasRoomForObject S parent → AreDoable plan (creation x class parent ∷ []) S
  creation_doable kind.Made class parent h = ((h, arrived_few k), tt)
  creation_doable _ class parent h = (h, tt)

  pub create_doable : (class parent : ℕ) → AreDoable plan (create_outcome plan S class parent).deeds S
  create_doable class parent =
      either_doable plan S (not (is_live (life_of S.tree parent))) (refused status.DeletePending)
      (if is_full S.tree then refused status.InsufficientResources else record { answer = Obj (new_handle plan S class); deeds = creation (kind_of_class plan class) class parent ∷ [] })
      (λ dead. tt)
      (λ live. either_doable plan S (is_full S.tree) (refused status.InsufficientResources) (record { answer = Obj (new_handle plan S class); deeds = creation (kind_of_class plan class) class parent ∷ [] })
      (λ full. tt)
      (λ room. creation_doable (kind_of_class plan class) class parent (record { live = not_false (is_live (life_of S.tree parent)) live; counted = room; room = objects_few k })))

  -- ---- requests

  pub arrived_request : (r : ℕ) → same_kind (kind_of S.tree r) kind.Request ≡ true → IsRequest S r
  arrived_request r h = request_room k r (inside no_request has_arrived S.requests.all r refl (k.arrived r h))

  owned_may_enter : (q r : ℕ) → is_owned (place_of S.requests r) ≡ true → IsQueue S q → MayEnter S q r
  owned_may_enter q r h queue = record { queue = queue; apart = apart k r (λ p. owned_waits_nowhere (place_of S.requests r) p h) }

  pub requeue_doable : (r q : ℕ) → is_owned (place_of S.requests r) ≡ true → q < declared_end plan → AreDoable plan (requeue_outcome S r q).deeds S
  requeue_doable r q h there =
      let gives = may_give_up k r (owned_undone (place_of S.requests r) h) in
      either_doable plan S (is_cancelled S.requests r || is_purged (mode_of S.control q)) (success (GiveBack (object_id r) (object_id q) ∷ [])) (success (Requeue (object_id r) (object_id q) ∷ []))
      (λ _. (gives, tt)) (λ _. ((gives, owned_may_enter q r h (queue_there q there)), tt))

  pub mark_doable : (r : ℕ) → is_owned (place_of S.requests r) ≡ true → AreDoable plan (mark_outcome plan S r).deeds S
  mark_doable r h =
      either_doable plan S (declares plan callback.EvtRequestCancel (origin_or_none S r)) (record { answer = Stat (mark_answer S.requests r); deeds = MarkRequest (object_id r) ∷ [] }) (refused status.InvalidDeviceRequest)
      (λ _. (request_here k r (owned_undone (place_of S.requests r) h), tt)) (λ _. tt)

  pub forward_doable : (r q : ℕ) → is_owned (place_of S.requests r) ≡ true → AreDoable plan (forward_outcome plan S r q).deeds S
  forward_doable r q h =
      let gives = may_give_up k r (owned_undone (place_of S.requests r) h) in
      either_doable plan S (forwards_nowhere plan S r q) (refused status.InvalidDeviceRequest)
      (if not (accepts S.control q) then refused status.WdfBusy else if is_cancelled S.requests r then success (GiveBack (object_id r) (object_id q) ∷ []) else success (Forward (object_id r) (object_id q) ∷ []))
      (λ _. tt)
      (λ _. either_doable plan S (not (accepts S.control q)) (refused status.WdfBusy) (if is_cancelled S.requests r then success (GiveBack (object_id r) (object_id q) ∷ []) else success (Forward (object_id r) (object_id q) ∷ []))
      (λ _. tt)
      (λ open_. either_doable plan S (is_cancelled S.requests r) (success (GiveBack (object_id r) (object_id q) ∷ [])) (success (Forward (object_id r) (object_id q) ∷ []))
      (λ _. (gives, tt))
      (λ _. ((gives, owned_may_enter q r h (accepting_queue k q (not_false (accepts S.control q) open_))), tt))))

  pub send_doable : (r t : ℕ) (forget : Bool) → is_owned (place_of S.requests r) ≡ true → AreDoable plan (send_outcome S r t forget).deeds S
  send_doable r t forget h =
      either_doable plan S (may_send S r t) (number 1 (SendRequest (object_id r) (object_id t) forget ∷ [])) (number 0 [])
      (λ may. let more : takes_more S.targets t ≡ true = search (both_left, both_right) in (
        (
          may_give_up k r (owned_undone (place_of S.requests r) h),
          more,
          found_nowhere r S.targets.targets (λ u. k.places.sent u r ∙ ap flag (owned_sent_nowhere (place_of S.requests r) u h)),
        ),
        tt,
      ))
      (λ _. tt)

  -- either it is acknowledged, or it is given back
  pub acknowledge_doable : (r : ℕ) (b : Arg) → (not (is_with_driver S r) || (not (arg_is b 0) && not (is_owned (place_of S.requests r)))) ≡ false
      → AreDoable plan (acknowledge_outcome S r b).deeds S
  acknowledge_doable r b held =
      let parts = either_false (not (is_with_driver S r)) (not (arg_is b 0) && not (is_owned (place_of S.requests r))) held in
      either_doable plan S (arg_is b 0) (success (Acknowledge (object_id r) ∷ [])) (requeue_outcome S r (origin_or_none S r))
      (λ _. ((held_request k r (not_false (is_with_driver S r) parts.0)).room, tt))
      (λ back. let e : (not (arg_is b 0) && not (is_owned (place_of S.requests r))) ≡ false = parts.1 in
      requeue_doable r (origin_or_none S r) (not_false (is_owned (place_of S.requests r)) (rw back at e)) (origin_there k r))

  -- ---- queues

  pub mode_there : (q : ℕ) → q < declared_end plan → q < length S.control.controls
  mode_there q h = let size = k.room.sizes.controls in omega arith

  -- a queue that is there may be purged: each request waits in it once
  pub may_purge : (q : ℕ) → IsQueue S q → MayPurge S q
  may_purge q there = record {
    queue = there;
    requests = λ r more. (waiting_request k q r more).there;
    once = λ r. let count = k.places.queued q r in let small = flag_small (is_queued_in q (place_of S.requests r)) in omega arith;
  }

  front_doable : (q : ℕ) (there : Option ℕ) → front S.queues q ≡ there → AreDoable plan (retrieve_front plan S q there).deeds S
  front_doable q None e = tt
  front_doable q (Some r) e = present_doable k q r (ap (λ o. same_id o r) e ∙ itself r)

  pub retrieve_doable : (q : ℕ) → AreDoable plan (retrieve_outcome plan S q).deeds S
  retrieve_doable q =
      either_doable plan S (is_parallel_queue plan q) (refused status.InvalidDeviceState) (if not (queue_delivers plan S q) then refused status.WdfPaused else retrieve_front plan S q (front S.queues q))
      (λ _. tt)
      (λ _. either_doable plan S (not (queue_delivers plan S q)) (refused status.WdfPaused) (retrieve_front plan S q (front S.queues q))
      (λ _. tt)
      (λ _. front_doable q (front S.queues q) refl))

  pub notify_doable : (q : ℕ) (x : Arg) → q < declared_end plan → AreDoable plan (notify_outcome plan q x).deeds S
  notify_doable q x there =
      either_doable plan S (is_manual_queue plan q && declares plan callback.EvtIoQueueState q) (success (RegisterQueue (object_id q) (not (arg_is x 0)) ∷ [])) (refused status.InvalidDeviceRequest)
      (λ _. (mode_there q there, tt)) (λ _. tt)

  -- ---- deferred work

  pub isr_doable : (cpu i : ℕ) → cpu < plan.cpus → i < declared_end plan → AreDoable plan (isr_dpc_outcome plan S cpu i).deeds S
  isr_doable cpu i here there =
      let size = k.room.sizes.dpcs in
      either_doable plan S (is_enabled S.interrupts i && declares plan callback.EvtInterruptDpc i && not (is_dpc_queued S.dpcs i)) (number 1 (EnqueueDpc (cpu_of cpu) (object_id i) ∷ [])) (number 0 [])
      (λ h. let off : not (is_dpc_queued S.dpcs i) ≡ true = search both_right in ((omega arith, declared_room k i there, not_true (is_dpc_queued S.dpcs i) off), tt)) (λ _. tt)

  pub dpc_doable : (cpu o : ℕ) → cpu < plan.cpus → AreDoable plan (dpc_outcome S cpu o).deeds S
  dpc_doable cpu o here =
      let size = k.room.sizes.dpcs in
      either_doable plan S (is_live (life_of S.tree o) && not (is_dpc_queued S.dpcs o)) (number 1 (EnqueueDpc (cpu_of cpu) (object_id o) ∷ [])) (number 0 [])
      (λ h. let off : not (is_dpc_queued S.dpcs o) ≡ true = search both_right in
      let live : is_live (life_of S.tree o) ≡ true = search both_left in
      ((omega arith, room_of k o (live_there o live), not_true (is_dpc_queued S.dpcs o) off), tt)) (λ _. tt)

  pub timer_doable : (o n : ℕ) → AreDoable plan (timer_outcome S o n).deeds S
  timer_doable o n =
      let small = clock_small k in
      either_doable plan S (is_live (life_of S.tree o)) (number (flag (is_timer_queued S.timers o)) (StartTimer (object_id o) n ∷ [])) (number 0 [])
      (λ live. ((room_of k o (live_there o live), omega arith), tt)) (λ _. tt)

  pub work_doable : (o : ℕ) → AreDoable plan (work_outcome S o).deeds S
  work_doable o =
      either_doable plan S (is_live (life_of S.tree o)) (success (EnqueueWork (object_id o) ∷ [])) (success [])
      (λ live. (room_of k o (live_there o live), tt)) (λ _. tt)
