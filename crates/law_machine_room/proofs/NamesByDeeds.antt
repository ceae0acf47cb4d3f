-- Each deed that fits and can be done names what is there: a line for each.
use Rattle.std.proofs.Common.{if◌then◌else◌, ◌≡◌, ℕ, ◌<◌, Bool, true, false, not, ◌&&◌, List, [], ◌∷◌, length, fold, Option, Some, None, is_none, refl, sym, subst, arith}
use Rattle.std.specs.List.{list_all}
use Rattle.wdf_base.specs.declared.plan.Plan.{Plan}
use Rattle.wdf_base.specs.declared.ids.ObjectId.{ObjectId}
use Rattle.wdf_base.specs.declared.value.Status.TheVariants as status
use Rattle.wdf_base.specs.declared.object.Place.{Place}
use Rattle.wdf_base.specs.declared.object.Place.TheVariants as place
use Rattle.wdf_base.specs.declared.object.RequestInfo.{RequestInfo}
use Rattle.wdf_base.specs.declared.call.Callback.TheVariants as callback
use Rattle.wdf_model.specs.declared.enums.Mode.TheVariants as mode
use Rattle.wdf_model.specs.Plans.{declares, device_of_queue, managed_queues, queues_of}
use Rattle.wdf_model.specs.parts.Tree.{nearest_device, next_id}
use Rattle.wdf_model.specs.parts.Requests.{Requests, info_of, made_info, marked, place_of, unmarked}
use Rattle.wdf_model.specs.parts.Requests as requests
use Rattle.wdf_model.specs.parts.Queues.{Queues, waiting_in}
use Rattle.wdf_model.specs.parts.Queues as queues
use Rattle.wdf_model.specs.parts.Control.{is_closed}
use Rattle.wdf_model.specs.parts.Control as control
use Rattle.wdf_model.specs.parts.Power.{Power}
use Rattle.wdf_model.specs.parts.Targets.{is_forgotten}
use Rattle.wdf_model.specs.State.{State, is_powered, is_with_driver, returns_to, withdrawn_place}
use Rattle.wdf_model.specs.declared.deed.Deed.{Deed}
use Rattle.wdf_model.specs.declared.deed.Deed.TheVariants.{MakeRequest, Arrive, AskDeletion, EndLife, PushFrame, GoOn, Raise, Lower, PopFrame, ParkFrame, UnparkFrame, Present, Receive, Requeue, Forward, GiveBack, Withdraw, MarkRequest, UnmarkRequest, CancelRequest, TakeCancel, SendRequest, FinishSending, ComeBack, CompleteRequest, PurgeQueue, CloseReturning, CloseDevice, AskDevice, TakeStep, EndStep}
use Rattle.wdf_model.specs.rules.Deeds.{arrive_at, ask_objects, close_queue, close_returning, do_deed, do_deeds, finished_at, give_up, give_up_if, withdraw}
use Rattle.law_machine_base.specs.Fits.{all_fit, fits, is_arrival_place}
use Rattle.wdf_model.proofs.Tests.{both_left, both_right}
use Rattle.law_machine_base.proofs.Deletion.{asking_deletes}
use Rattle.wdf_model.specs.rules.Room.{AreDoable, IsDoable, MayEnterIfQueued}
use Rattle.law_machine_room.specs.Kept.{NamesKept, SizesKept}
use Rattle.wdf_model.specs.rules.Groups.{declared_end}
use Rattle.law_machine_room.proofs.SizesOfPlans.{declares_below}
use Rattle.law_machine_room.proofs.SizesByDeeds.{deed_sizes}
use Rattle.law_machine_room.proofs.NamesOfRequests.{AllNamed, OriginNamed, PlaceNamed, arrive_named, cancel_named, closing_named, done_named, finished_named, forget_named, mark_named, move_named, owned_named, queue_closed, queued_named, returning_closed, returning_named, sent_named, take_named, unmark_named, with_named}
use Rattle.law_machine_room.proofs.NamesOfFrames.{FramesNamed, changed_named, frames_named, named_frames, parked_named, popped_named, pushed_named, unparked_named}
use Rattle.law_machine_room.proofs.NamesOfSteps.{StepsNamed, ask_named, end_step_named, take_step_named}

-- what is named is there, by the parts
pub record Named {A : Type 0} (plan : Plan) (S : State A) : Type 0 where
  pub requests : AllNamed (declared_end plan) S.requests
  pub frames : FramesNamed S.cpus
  pub steps : StepsNamed plan S.pnp

pub named_of_kept : {A : Type 0} (plan : Plan) (S : State A) → NamesKept plan S → Named plan S
named_of_kept plan S k = record {
  requests = λ r. record { where_it_is = k.places r; where_from = k.origins r };
  frames = frames_named S.cpus k.frames;
  steps = λ d. record { left = k.steps d; made_of = k.made_of d };
}

pub kept_of_named : {A : Type 0} (plan : Plan) (S : State A) → Named plan S → NamesKept plan S
kept_of_named plan S k = record {
  places = λ r. (k.requests r).where_it_is;
  origins = λ r. (k.requests r).where_from;
  frames = named_frames S.cpus k.frames;
  steps = λ d. (k.steps d).left;
  made_of = λ d. (k.steps d).made_of;
}

-- a request that arrives has no origin
abbrev pub arrives_anew : Deed → Bool
arrives_anew (Arrive device info p) = is_none info.origin
arrives_anew _ = true

abbrev pub all_anew : List Deed → Bool
all_anew ds = list_all arrives_anew ds

-- ---- what deeds do on the way

given_up_by : {A : Type 0} (plan : Plan) (S : State A) (b : Bool) (Q : Queues) (P : Power) → Named plan S → Named plan (if b then record S { queues = Q; power = P } else S)
given_up_by plan S true Q P k = record { requests = k.requests; frames = k.frames; steps = k.steps }
given_up_by plan S false Q P k = k

given_up : {A : Type 0} (plan : Plan) (S : State A) (r : ℕ) → Named plan S → Named plan (give_up S r)
given_up plan S r k = given_up_by plan S (is_with_driver S r) _ _ k

given_up_if : {A : Type 0} (plan : Plan) (S : State A) (forget : Bool) (r : ℕ) → Named plan S → Named plan (give_up_if forget S r)
given_up_if plan S true r k = given_up plan S r k
given_up_if plan S false r k = k

asked : {A : Type 0} (plan : Plan) (S : State A) (o : ℕ) → Named plan S → Named plan (ask_objects S o)
asked plan S o k = subst (λ (U : State _). Named plan U) (sym (asking_deletes S o).rest) (record { requests = k.requests; frames = k.frames; steps = k.steps })

withdrawn_by : {A : Type 0} (plan : Plan) (S : State A) (q : ℕ) (b : Bool) → (b ≡ true → q < declared_end plan)
    → PlaceNamed (declared_end plan) (if b then place.Returning (record { 0 = q }) else place.Closing status.Cancelled)
withdrawn_by plan S q true h = returning_named (declared_end plan) (record { 0 = q }) (h refl)
withdrawn_by plan S q false h = closing_named (declared_end plan) status.Cancelled

-- a request returns only to a queue that declares EvtIoCanceledOnQueue
withdrawn_named : {A : Type 0} (plan : Plan) (S : State A) (q r : ℕ) → PlaceNamed (declared_end plan) (withdrawn_place plan S q r)
withdrawn_named plan S q r =
    withdrawn_by plan S q ((info_of S.requests r).received && returns_to plan S q)
    (λ e. declares_below plan callback.EvtIoCanceledOnQueue q
    (both_left (declares plan callback.EvtIoCanceledOnQueue q) (not (is_closed S.control (device_of_queue plan q)))
    (both_left (declares plan callback.EvtIoCanceledOnQueue q && not (is_closed S.control (device_of_queue plan q))) (is_powered plan S q)
    (both_right (info_of S.requests r).received (returns_to plan S q) e))))

withdraw_named : {A : Type 0} (plan : Plan) (q : ℕ) (S : State A) (r : ℕ) → Named plan S → Named plan (withdraw plan q S r)
withdraw_named plan q S r k = record {
  requests =
      move_named (declared_end plan) (requests.cancel S.requests r) r _ (withdrawn_named plan (record S { queues = queues.take_cancelled S.queues r }) q r)
      (cancel_named (declared_end plan) S.requests r k.requests);
  frames = k.frames;
  steps = k.steps;
}

all_withdrawn : {A : Type 0} (plan : Plan) (q : ℕ) (rs : List ℕ) (S : State A) → Named plan S → Named plan (fold (withdraw plan q) S rs)
all_withdrawn plan q [] S k = k
all_withdrawn plan q (r ∷ rs) S k = all_withdrawn plan q rs (withdraw plan q S r) (withdraw_named plan q S r k)

all_returning : {A : Type 0} (plan : Plan) (qs : List ℕ) (S : State A) → Named plan S → Named plan (fold close_returning S qs)
all_returning plan [] S k = k
all_returning plan (q ∷ qs) S k =
    all_returning plan qs (close_returning S q) (record { requests = returning_closed (declared_end plan) S.requests q k.requests; frames = k.frames; steps = k.steps })

all_closed : {A : Type 0} (plan : Plan) (qs : List ℕ) (S : State A) → Named plan S → Named plan (fold close_queue S qs)
all_closed plan [] S k = k
all_closed plan (q ∷ qs) S k =
    all_closed plan qs (close_queue S q) (record { requests = queue_closed (declared_end plan) S.requests q k.requests; frames = k.frames; steps = k.steps })

without_origin : (n : ℕ) (from : Option ObjectId) → is_none from ≡ true → OriginNamed n from
without_origin n None h q e = absurd (let z : ⊥ = cc in z)
without_origin n (Some x) h q e = absurd (let z : ⊥ = cc in z)

arrived : {A : Type 0} (plan : Plan) (S : State A) (device : ℕ) (info : RequestInfo) (p : Place) → is_arrival_place p ≡ true → is_none info.origin ≡ true
    → MayEnterIfQueued S p (next_id S.tree) → SizesKept plan S → Named plan S → Named plan (arrive_at S device info p)
arrived plan S device info (place.Queued q) h anew may sizes k =
    let there : q.0 < length S.queues.dispatch = may.queue.dispatch in
    let size : length S.queues.dispatch ≡ declared_end plan = sizes.dispatch in
    record {
      requests = arrive_named (declared_end plan) S.requests (next_id S.tree) (place.Queued q) info (queued_named (declared_end plan) q (omega arith)) (without_origin (declared_end plan) info.origin anew) k.requests;
      frames = k.frames;
      steps = k.steps;
    }
arrived plan S device info (place.Closing s) h anew may sizes k = record {
  requests = arrive_named (declared_end plan) S.requests (next_id S.tree) (place.Closing s) info (closing_named (declared_end plan) s) (without_origin (declared_end plan) info.origin anew) k.requests;
  frames = k.frames;
  steps = k.steps;
}
arrived plan S device info _ h anew may sizes k = absurd (let z : ⊥ = cc in z)

-- a request enters a queue
entered : {A : Type 0} (plan : Plan) (S : State A) (R : Requests) (q r : ℕ) → q < length S.queues.dispatch → SizesKept plan S → AllNamed (declared_end plan) R
    → AllNamed (declared_end plan) (requests.move_to R r (place.Queued (record { 0 = q })))
entered plan S R q r h sizes k =
    let size : length S.queues.dispatch ≡ declared_end plan = sizes.dispatch in
    move_named (declared_end plan) R r (place.Queued (record { 0 = q })) (queued_named (declared_end plan) (record { 0 = q }) (omega arith)) k

-- ---- each deed

pub deed_names : {A : Type 0} (plan : Plan) (d : Deed) (S : State A) → fits plan d S ≡ true → arrives_anew d ≡ true → IsDoable plan d S → SizesKept plan S
    → Named plan S → Named plan (do_deed plan d S)
deed_names plan (MakeRequest class parent) S f a d z k = record {
  requests = arrive_named (declared_end plan) S.requests (next_id S.tree) place.Owned (made_info (nearest_device S.tree parent.0)) (owned_named (declared_end plan)) (without_origin (declared_end plan) None refl) k.requests;
  frames = k.frames;
  steps = k.steps;
}
deed_names plan (Arrive device info p) S f a d z k = arrived plan S device.0 info p (both_right _ (is_arrival_place p) f) a d.2 z k
deed_names plan (AskDeletion o) S f a d z k = asked plan S o.0 k
deed_names plan (EndLife o) S f a d z k = record { requests = forget_named (declared_end plan) S.requests o.0 k.requests; frames = k.frames; steps = k.steps }
deed_names plan (PushFrame cpu g frame level) S f a d z k = record { requests = k.requests; frames = pushed_named S.cpus cpu.0 g.0 frame level.0 k.frames; steps = k.steps }
deed_names plan (GoOn g frame) S f a d z k = record { requests = k.requests; frames = changed_named S.cpus g.0 frame k.frames; steps = k.steps }
deed_names plan (Raise g level) S f a d z k = record { requests = k.requests; frames = record { stacks = k.frames.stacks; parked = k.frames.parked }; steps = k.steps }
deed_names plan (Lower g level) S f a d z k = record { requests = k.requests; frames = record { stacks = k.frames.stacks; parked = k.frames.parked }; steps = k.steps }
deed_names plan (PopFrame cpu) S f a d z k = record { requests = k.requests; frames = popped_named S.cpus cpu.0 k.frames; steps = k.steps }
deed_names plan (ParkFrame cpu) S f a d z k = record { requests = k.requests; frames = parked_named S.cpus cpu.0 k.frames; steps = k.steps }
deed_names plan (UnparkFrame cpu g) S f a d z k = record { requests = k.requests; frames = unparked_named S.cpus cpu.0 g.0 d.1 k.frames; steps = k.steps }
deed_names plan (Present q r) S f a d z k = record { requests = move_named (declared_end plan) S.requests r.0 place.Owned (owned_named (declared_end plan)) k.requests; frames = k.frames; steps = k.steps }
deed_names plan (Receive q r) S f a d z k = record { requests = move_named (declared_end plan) S.requests r.0 place.Owned (owned_named (declared_end plan)) k.requests; frames = k.frames; steps = k.steps }
deed_names plan (Requeue r q) S f a d z k =
    let g = given_up plan S r.0 k in
    record { requests = entered plan S (give_up S r.0).requests q.0 r.0 d.1.queue.dispatch z g.requests; frames = g.frames; steps = g.steps }
deed_names plan (Forward r q) S f a d z k =
    let g = given_up plan S r.0 k in
    record { requests = entered plan S (give_up S r.0).requests q.0 r.0 d.1.queue.dispatch z g.requests; frames = g.frames; steps = g.steps }
deed_names plan (GiveBack r q) S f a d z k =
    let g = given_up plan S r.0 k in
    record {
      requests =
          move_named (declared_end plan) (requests.cancel (give_up S r.0).requests r.0) r.0 _ (withdrawn_named plan (give_up S r.0) q.0 r.0)
          (cancel_named (declared_end plan) (give_up S r.0).requests r.0 g.requests);
      frames = g.frames;
      steps = g.steps;
    }
deed_names plan (Withdraw q r) S f a d z k = withdraw_named plan q.0 S r.0 k
deed_names plan (MarkRequest r) S f a d z k = record { requests = with_named (declared_end plan) S.requests r.0 marked (λ x named. mark_named (declared_end plan) x named) k.requests; frames = k.frames; steps = k.steps }
deed_names plan (UnmarkRequest r) S f a d z k = record { requests = with_named (declared_end plan) S.requests r.0 unmarked (λ x named. unmark_named (declared_end plan) x named) k.requests; frames = k.frames; steps = k.steps }
deed_names plan (CancelRequest r) S f a d z k = record { requests = cancel_named (declared_end plan) S.requests r.0 k.requests; frames = k.frames; steps = k.steps }
deed_names plan (TakeCancel r) S f a d z k = record { requests = take_named (declared_end plan) S.requests r.0 k.requests; frames = k.frames; steps = k.steps }
deed_names plan (SendRequest r t forget) S f a d z k =
    let g = given_up_if plan S forget r.0 k in
    record {
      requests = move_named (declared_end plan) (give_up_if forget S r.0).requests r.0 (place.Sent (record { 0 = t.0 })) (sent_named (declared_end plan) (record { 0 = t.0 })) g.requests;
      frames = g.frames;
      steps = g.steps;
    }
deed_names plan (FinishSending r s) S f a d z k = record {
  requests =
      move_named (declared_end plan) S.requests r.0 (finished_at (is_forgotten S.targets r.0) s (place_of S.requests r.0))
      (finished_named (declared_end plan) (is_forgotten S.targets r.0) s (place_of S.requests r.0) (k.requests r.0).where_it_is) k.requests;
  frames = k.frames;
  steps = k.steps;
}
deed_names plan (ComeBack r) S f a d z k = record { requests = move_named (declared_end plan) S.requests r.0 place.Owned (owned_named (declared_end plan)) k.requests; frames = k.frames; steps = k.steps }
deed_names plan (CompleteRequest r) S f a d z k =
    let g = given_up plan S r.0 k in
    asked plan (record (give_up S r.0) { requests = requests.complete S.requests r.0 }) r.0
    (record { requests = move_named (declared_end plan) S.requests r.0 place.Done (done_named (declared_end plan)) k.requests; frames = g.frames; steps = g.steps })
deed_names plan (PurgeQueue q) S f a d z k =
    all_withdrawn plan q.0 (waiting_in S.queues q.0) (record S { control = control.set_mode S.control q.0 mode.Purged }) (record { requests = k.requests; frames = k.frames; steps = k.steps })
deed_names plan (CloseReturning x) S f a d z k = all_returning plan (managed_queues plan x.0) S k
deed_names plan (CloseDevice x) S f a d z k =
    all_closed plan (queues_of plan x.0) (record S { control = control.shut S.control x.0 }) (record { requests = k.requests; frames = k.frames; steps = k.steps })
deed_names plan (AskDevice x ask) S f a d z k = record { requests = k.requests; frames = k.frames; steps = ask_named plan S.pnp x.0 ask k.steps }
deed_names plan (TakeStep x) S f a d z k = record { requests = k.requests; frames = k.frames; steps = take_step_named plan S.pnp x.0 k.steps }
deed_names plan (EndStep x s result) S f a d z k = record { requests = k.requests; frames = k.frames; steps = end_step_named plan S.pnp x.0 s result k.steps }
deed_names plan _ S f a d z k = record { requests = k.requests; frames = k.frames; steps = k.steps }

pub deeds_names : {A : Type 0} (plan : Plan) (ds : List Deed) (S : State A) → all_fit plan ds S ≡ true → all_anew ds ≡ true → AreDoable plan ds S → SizesKept plan S
    → Named plan S → Named plan (do_deeds plan ds S)
deeds_names plan [] S f a d z k = k
deeds_names plan (e ∷ ds) S f a d z k =
    deeds_names plan ds (do_deed plan e S) (both_right (fits plan e S) (all_fit plan ds (do_deed plan e S)) f) (both_right (arrives_anew e) (all_anew ds) a) d.1 (deed_sizes plan e S d.0 z)
    (deed_names plan e S (both_left (fits plan e S) (all_fit plan ds (do_deed plan e S)) f) (both_left (arrives_anew e) (all_anew ds) a) d.0 z k)
