-- In every run nothing waits in a queue that is Purged: what each event keeps of that.
use Rattle.std.proofs.Common.{if◌then◌else◌, ◌≡◌, ℕ, ◌==◌, Bool, true, false, not, ◌&&◌, ◌||◌, [], ◌∷◌, Option, Some, None, refl, sym, ap, subst}
use Rattle.wdf_base.specs.Meaning.{Meaning}
use Rattle.wdf_base.specs.declared.plan.Plan.{Plan}
use Rattle.wdf_base.specs.declared.ids.Handle.{Handle}
use Rattle.wdf_base.specs.declared.value.Status.TheVariants as status
use Rattle.wdf_base.specs.declared.object.Place.{Place}
use Rattle.wdf_base.specs.declared.object.Place.TheVariants as place
use Rattle.wdf_base.specs.declared.object.RequestForm.{RequestForm}
use Rattle.wdf_base.specs.declared.object.RequestForm.TheVariants as form
use Rattle.wdf_base.specs.declared.call.Arg.{Arg}
use Rattle.wdf_base.specs.declared.call.CallKind.{CallKind}
use Rattle.wdf_base.specs.declared.call.CallKind.TheVariants as call
use Rattle.wdf_base.specs.declared.event.Event.{Event}
use Rattle.wdf_base.specs.declared.event.Event.TheVariants as event
use Rattle.wdf_base.specs.declared.event.Post.{Post}
use Rattle.wdf_base.specs.declared.event.Post.TheVariants as post
use Rattle.wdf_base.specs.Lives.{is_live}
use Rattle.wdf_base.specs.Posts.{is_request}
use Rattle.wdf_model.specs.declared.enums.Mode.{Mode}
use Rattle.wdf_model.specs.declared.enums.Mode.TheVariants.{Started, Stopped, Drained, Purged}
use Rattle.wdf_model.specs.Plans.{has_handler, is_manual_queue, queue_for, queue_of}
use Rattle.wdf_model.specs.parts.Tree.{life_of}
use Rattle.wdf_model.specs.parts.Requests.{is_cancelled}
use Rattle.wdf_model.specs.parts.Queues.{Queues}
use Rattle.wdf_model.specs.parts.Control.{Control, accepts, accepts_in, is_purged, mode_of}
use Rattle.wdf_model.specs.State.{State, object_in}
use Rattle.wdf_model.specs.Ids.{object_id}
use Rattle.wdf_model.specs.declared.deed.Deed.TheVariants.{Acknowledge, Arrive, CountArrival, Forward, GiveBack, Requeue, SetMode}
use Rattle.wdf_model.specs.rules.Deeds.{do_deeds}
use Rattle.wdf_base.specs.Values.{arg_is}
use Rattle.wdf_model.specs.rules.Calls.{Outcome, forward_outcome, forwards_nowhere, origin_or_none, outcome, refused, requeue_outcome, success}
use Rattle.wdf_model.specs.rules.Posts.{arrival_info, arrival_place, is_data, place_if_any, place_in_queue, takes_empty}
use Rattle.wdf_model.specs.rules.Steps.{deeds, may}
use Rattle.wdf_model.proofs.Tests.{either_false, not_false}
use Rattle.law_machine_base.proofs.OwnEvents.{did_tells, waiting_tells}
use Rattle.law_machine_deeds.specs.MayDo.{calls, first_part, gives_to_head, posts, sets_modes}
use Rattle.law_machine_deeds.proofs.Walk.{plain_frame}
use Rattle.law_machine_deeds.proofs.Passing.{Passes, PassesBeside, event_passes, first_of, outcome_passes}
use Rattle.law_machine_lives.proofs.ReasonsOfCalls.{call_of}
use Rattle.law_trace_requests.proofs.FirstParts.{did_after, waiting_after}
use Rattle.law_queue_modes.proofs.Empty.{Empty, EmptyIn, IsOpenAt, arrive_empty, deeds_empty, forward_empty, is_calm, requeue_empty, set_empty}

-- ---- events by which no request enters, and no mode but Purged comes

module _ (e : Event) (arrives : posts is_request e ≡ false) (back : first_part gives_to_head e ≡ false) (on : calls call.WdfRequestForwardToIoQueue e ≡ false) (sets : first_part sets_modes e ≡ false) where
  calm : Passes is_calm e
  calm (Arrive device info p) h = absurd (let z : ⊥ = cc in z)
  calm (Requeue r q) h = absurd (let z : ⊥ = cc in z)
  calm (Forward r q) h = absurd (let z : ⊥ = cc in z)
  calm (SetMode q m) h = absurd (let z : ⊥ = cc in z)
  calm _ h = refl

  calm_event : {A : Type 0} (plan : Plan) (S : State A) → EmptyIn plan S → EmptyIn plan (do_deeds plan (deeds plan S e) S)
  calm_event plan S k = deeds_empty plan (deeds plan S e) S (event_passes is_calm plan S e calm) k

  calm_beside : PassesBeside is_calm plain_frame e
  calm_beside d h n = calm d h

-- ---- queues that accept

not_purged : (m : Mode) → accepts_in m ≡ true → m ≡ Purged → ⊥
not_purged m h e = let off : accepts_in m ≡ false = ap accepts_in e in let z : ⊥ = cc in z

purged_is : (m : Mode) → is_purged m ≡ false → m ≡ Purged → ⊥
purged_is m h e = let on : is_purged m ≡ true = ap is_purged e in let z : ⊥ = cc in z

-- ---- arrivals

module _ {A : Type 0} (plan : Plan) (S : State A) where
  open_either : (b : Bool) (x y : Place) → IsOpenAt S.control x → IsOpenAt S.control y → IsOpenAt S.control (if b then x else y)
  open_either true x y h k = h
  open_either false x y h k = k

  open_if : (b : Bool) (x y : Place) → IsOpenAt S.control x → (b ≡ false → IsOpenAt S.control y) → IsOpenAt S.control (if b then x else y)
  open_if true x y h k = h
  open_if false x y h k = k refl

  open_in : (f : RequestForm) (length q : ℕ) → IsOpenAt S.control (place_in_queue plan S f length q)
  open_in f length q =
      open_if (not (accepts S.control q)) (place.Closing status.InvalidDeviceState) _ tt
      (λ e. open_either (is_data f && length == 0 && not (takes_empty (queue_of plan q))) (place.Closing status.Success) _ tt
      (open_either (not (is_manual_queue plan q || has_handler plan q f)) (place.Closing status.InvalidDeviceRequest) (place.Queued (record { 0 = q })) tt
      (not_purged (mode_of S.control q) (not_false (accepts S.control q) e))))

  open_if_any : (f : RequestForm) (length : ℕ) (q : Option ℕ) → IsOpenAt S.control (place_if_any plan S f length q)
  open_if_any f length None = tt
  open_if_any f length (Some q) = open_in f length q

  arrival_empty : (agent : ℕ) (f : RequestForm) (length code device : ℕ) (b : Bool) → EmptyIn plan S
      → EmptyIn plan (do_deeds plan (CountArrival agent ∷ (if b then Arrive (object_id device) (arrival_info S agent f length code device) (arrival_place plan S f length device) ∷ [] else [])) S)
  arrival_empty agent f length code device false k = record { device = k.device; empty = k.empty }
  arrival_empty agent f length code device true k =
      arrive_empty plan _ device (arrival_info S agent f length code device) (arrival_place plan S f length device) (open_if_any f length (queue_for plan device f)) (record { device = k.device; empty = k.empty })

  posts_empty : (agent : ℕ) (p : Post) (answer : Option Handle) → EmptyIn plan S → EmptyIn plan (do_deeds plan (deeds plan S (event.Posted agent p answer)) S)
  posts_empty agent (post.Read device length) answer k = arrival_empty agent form.Read length 0 device.id.0 (is_live (life_of S.tree device.id.0)) k
  posts_empty agent (post.Write device length) answer k = arrival_empty agent form.Write length 0 device.id.0 (is_live (life_of S.tree device.id.0)) k
  posts_empty agent (post.Control device code length) answer k = arrival_empty agent form.Control length code device.id.0 (is_live (life_of S.tree device.id.0)) k
  posts_empty agent p answer k = calm_event (event.Posted agent p answer) refl refl refl refl plan S k

  -- ---- calls

  either_empty : (b : Bool) (x y : Outcome) → (b ≡ true → EmptyIn plan (do_deeds plan x.deeds S)) → (b ≡ false → EmptyIn plan (do_deeds plan y.deeds S)) → EmptyIn plan (do_deeds plan (if b then x else y).deeds S)
  either_empty true x y h k = h refl
  either_empty false x y h k = k refl

  module _ (k : EmptyIn plan S) where
    back_empty : (r q : ℕ) → EmptyIn plan (do_deeds plan (requeue_outcome S r q).deeds S)
    back_empty r q = either_empty (is_cancelled S.requests r || is_purged (mode_of S.control q)) (success (GiveBack (object_id r) (object_id q) ∷ [])) (success (Requeue (object_id r) (object_id q) ∷ []))
        (λ e. deeds_empty plan (GiveBack (object_id r) (object_id q) ∷ []) S refl k)
        (λ e. requeue_empty plan S r q (purged_is (mode_of S.control q) (either_false (is_cancelled S.requests r) (is_purged (mode_of S.control q)) e).1) k)

    on_empty : (r q : ℕ) → EmptyIn plan (do_deeds plan (forward_outcome plan S r q).deeds S)
    on_empty r q =
        either_empty (forwards_nowhere plan S r q) (refused status.InvalidDeviceRequest) _ (λ e. k)
        (λ e. either_empty (not (accepts S.control q)) (refused status.WdfBusy) _ (λ x. k)
        (λ x. either_empty (is_cancelled S.requests r) (success (GiveBack (object_id r) (object_id q) ∷ [])) (success (Forward (object_id r) (object_id q) ∷ []))
        (λ y. deeds_empty plan (GiveBack (object_id r) (object_id q) ∷ []) S refl k)
        (λ y. forward_empty plan S r q (not_purged (mode_of S.control q) (not_false (accepts S.control q) x)) k)))

    module _ (cpu f n : ℕ) (a b x : Arg) where
      outcome_empty : (c : CallKind) → EmptyIn plan (do_deeds plan (outcome plan S cpu f (call_of c n a b x)).deeds S)
      outcome_empty call.WdfRequestRequeue = back_empty (object_in a) (origin_or_none S (object_in a))
      outcome_empty call.WdfRequestForwardToIoQueue = on_empty (object_in a) (object_in b)
      outcome_empty call.WdfRequestStopAcknowledge = either_empty (arg_is b 0) (success (Acknowledge (object_id (object_in a)) ∷ [])) (requeue_outcome S (object_in a) (origin_or_none S (object_in a)))
          (λ e. deeds_empty plan (Acknowledge (object_id (object_in a)) ∷ []) S refl k) (λ e. back_empty (object_in a) (origin_or_none S (object_in a)))
      outcome_empty call.WdfIoQueueStart = set_empty S.control (object_in a) Started plan S.queues (λ e. let z : ⊥ = cc in z) k
      outcome_empty call.WdfIoQueueStop = set_empty S.control (object_in a) Stopped plan S.queues (λ e. let z : ⊥ = cc in z) k
      outcome_empty call.WdfIoQueueStopSynchronously = set_empty S.control (object_in a) Stopped plan S.queues (λ e. let z : ⊥ = cc in z) k
      outcome_empty call.WdfIoQueueDrain = set_empty S.control (object_in a) Drained plan S.queues (λ e. let z : ⊥ = cc in z) k
      outcome_empty call.WdfIoQueueDrainSynchronously = set_empty S.control (object_in a) Drained plan S.queues (λ e. let z : ⊥ = cc in z) k
      outcome_empty c = deeds_empty plan (outcome plan S cpu f (call_of c n a b x)).deeds S (outcome_passes is_calm plan S cpu f (call_of c n a b x) (calm_beside (first_of (call_of c n a b x)) refl refl refl refl)) k

-- ---- all events

-- the parts of a state of which this speaks
abbrev line_in : {A : Type 0} → State A → Control × Queues
line_in S = (S.control, S.queues)

same_empty : {A : Type 0} (plan : Plan) (S T : State A) → line_in T ≡ line_in S → EmptyIn plan S → EmptyIn plan T
same_empty plan S T e k = subst (λ (l : Control × Queues). Empty plan l.0 l.1) (sym e) k

pub event_empty : {A : Type 0} (plan : Plan) (m : Meaning A) (S : State A) (e : Event) → may plan m S e ≡ true → EmptyIn plan S → EmptyIn plan (do_deeds plan (deeds plan S e) S)
event_empty plan m S (event.Did cpu c v) h k =
    let t = did_tells plan m S cpu c v h in
    same_empty plan (do_deeds plan (outcome plan S cpu.0 t.frame c).deeds S) (do_deeds plan (deeds plan S (event.Did cpu c v)) S) (did_after line_in (λ T L C. refl) plan S cpu.0 c v t) (outcome_empty plan S k cpu.0 t.frame c.count c.a c.b c.c c.kind)
event_empty plan m S (event.Waiting cpu c) h k =
    let t = waiting_tells plan m S cpu c h in
    same_empty plan (do_deeds plan (outcome plan S cpu.0 t.frame c).deeds S) (do_deeds plan (deeds plan S (event.Waiting cpu c)) S) (waiting_after line_in (λ T L C. refl) plan S cpu.0 c t) (outcome_empty plan S k cpu.0 t.frame c.count c.a c.b c.c c.kind)
event_empty plan m S (event.Posted agent p answer) h k = posts_empty plan S agent p answer k
event_empty plan m S e h k = calm_event e refl refl refl refl plan S k
