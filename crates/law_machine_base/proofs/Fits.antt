-- The deeds of each event that May allows fit where they are done: one rich row for each row of the table
-- of calls and for each kind of event, for all laws.
use Rattle.std.proofs.Common.{if◌then◌else◌, ◌≡◌, ℕ, ◌==◌, Bool, true, false, not, ◌&&◌, ◌||◌, List, [], ◌∷◌, ◌++◌, Option, Some, None, option_map, slice_get, unwrap_or, refl}
use Rattle.wdf_base.specs.declared.plan.Plan.{Plan}
use Rattle.wdf_base.specs.declared.call.Arg.{Arg}
use Rattle.wdf_base.specs.declared.call.Call.{Call}
use Rattle.wdf_base.specs.declared.event.Fault.TheVariants as fault
use Rattle.wdf_base.specs.declared.object.Kind.{Kind}
use Rattle.wdf_base.specs.declared.object.Kind.TheVariants as kind
use Rattle.wdf_base.specs.declared.value.Value.TheVariants.{Num, Obj, Stat}
use Rattle.wdf_base.specs.declared.value.Status.TheVariants as status
use Rattle.wdf_base.specs.declared.call.Arg.TheVariants.{Val, Class}
use Rattle.wdf_base.specs.declared.call.Callback.TheVariants as callback
use Rattle.wdf_base.specs.declared.signature.Sort.TheVariants as sort
use Rattle.wdf_base.specs.declared.declared.ClassInfo.{ClassInfo}
use Rattle.wdf_base.specs.declared.declared.ClassInfo.TheVariants as class
use Rattle.wdf_base.specs.declared.declared.PlainKind.TheVariants as plain
use Rattle.wdf_base.specs.declared.declared.DeferredKind.TheVariants as deferred
use Rattle.wdf_base.specs.Calls.{signature_of}
use Rattle.wdf_base.specs.Kinds.{class_kind}
use Rattle.wdf_base.specs.Same.{same_kind}
use Rattle.wdf_base.specs.Lives.{is_live}
use Rattle.wdf_base.specs.Places.{is_owned}
use Rattle.wdf_model.specs.Plans.{declares, is_parallel_queue, kind_of_class}
use Rattle.wdf_model.specs.parts.Tree.{is_full, kind_of, life_of}
use Rattle.wdf_model.specs.parts.Requests.{is_cancelled, mark_answer, place_of}
use Rattle.wdf_model.specs.parts.Queues.{front}
use Rattle.wdf_model.specs.parts.Control.{accepts, is_purged, mode_of}
use Rattle.wdf_model.specs.State.{State, object_in, queue_delivers}
use Rattle.wdf_model.specs.Ids.{object_id}
use Rattle.wdf_model.specs.declared.deed.Deed.{Deed}
use Rattle.wdf_model.specs.declared.deed.Deed.TheVariants.{Forward, GiveBack, MarkRequest, Requeue, SendRequest}
use Rattle.wdf_model.specs.rules.Deeds.{do_deed, do_deeds}
use Rattle.wdf_model.specs.rules.Faults.{View, is_request_kind, any_argument, call_faults, forgets_made, is_wrong_kind, is_never_deleted}
use Rattle.wdf_model.specs.rules.Calls.{Outcome, create_outcome, creation, forward_outcome, forwards_nowhere, mark_outcome, may_send, new_handle, number, origin_or_none, refused, requeue_outcome, retrieve_front, retrieve_outcome, send_outcome, success}
use Rattle.law_machine_base.specs.Fits.{all_fit, fits, is_given}
use Rattle.wdf_model.proofs.Tests.{alone, both, both_left, both_right, either_false, itself, not_false, second}

-- deeds that fit, and others that fit after them
pub fit_behind : {A : Type 0} (plan : Plan) (ds es : List Deed) (S : State A) → all_fit plan ds S ≡ true → all_fit plan es (do_deeds plan ds S) ≡ true
    → all_fit plan (ds ++ es) S ≡ true
fit_behind plan [] es S h k = k
fit_behind plan (d ∷ ds) es S h k =
    both (fits plan d S) (all_fit plan (ds ++ es) (do_deed plan d S)) (both_left (fits plan d S) (all_fit plan ds (do_deed plan d S)) h)
    (fit_behind plan ds es (do_deed plan d S) (both_right (fits plan d S) (all_fit plan ds (do_deed plan d S)) h) k)

-- a choice of outcomes
pub either_fits : {A : Type 0} (plan : Plan) (S : State A) (b : Bool) (x y : Outcome) → (b ≡ true → all_fit plan x.deeds S ≡ true) → (b ≡ false → all_fit plan y.deeds S ≡ true)
    → all_fit plan (if b then x else y).deeds S ≡ true
either_fits plan S true x y h k = h refl
either_fits plan S false x y h k = k refl

-- ---- what no fault says of a call

pub wrong_kind_of_first : (v : View) (c : Call) → call_faults v c fault.WrongKind ≡ false → is_wrong_kind v (signature_of c.kind).a c.a ≡ false
wrong_kind_of_first v c h =
    (either_false (is_wrong_kind v (signature_of c.kind).a c.a) (is_wrong_kind v (signature_of c.kind).b c.b)
    (either_false (is_wrong_kind v (signature_of c.kind).a c.a || is_wrong_kind v (signature_of c.kind).b c.b) (is_wrong_kind v (signature_of c.kind).c c.c)
    (either_false (any_argument (is_wrong_kind v) c) (forgets_made v c) h).0).0).0

pub forgets_none : (v : View) (c : Call) → call_faults v c fault.WrongKind ≡ false → forgets_made v c ≡ false
forgets_none v c h = (either_false (any_argument (is_wrong_kind v) c) (forgets_made v c) h).1

pub first_kind : (v : View) (k : Kind) (a : Arg) → is_wrong_kind v (sort.ObjectOf k) a ≡ false → same_kind (v.kind (object_in a)) k ≡ true
first_kind v k (Val (Obj h)) e = not_false (same_kind (v.kind h.id.0) k) e
first_kind v k (Val (Num n)) e = absurd (let z : ⊥ = cc in z)
first_kind v k (Val (Stat s)) e = absurd (let z : ⊥ = cc in z)
first_kind v k (Class c) e = absurd (let z : ⊥ = cc in z)

any_request : (v : View) (a : Arg) → is_wrong_kind v sort.AnyRequest a ≡ false → is_request_kind (v.kind (object_in a)) ≡ true
any_request v (Val (Obj h)) e = not_false (is_request_kind (v.kind h.id.0)) e
any_request v (Val (Num n)) e = absurd (let z : ⊥ = cc in z)
any_request v (Val (Stat s)) e = absurd (let z : ⊥ = cc in z)
any_request v (Class c) e = absurd (let z : ⊥ = cc in z)

kind_of_forgotten : (k : Kind) (forget : Bool) → is_request_kind k ≡ true → (forget && same_kind k kind.Made) ≡ false → (not forget || same_kind k kind.Request) ≡ true
kind_of_forgotten kind.Request forget h e = second (not forget) true refl
kind_of_forgotten kind.Made true h e = absurd (let z : ⊥ = cc in z)
kind_of_forgotten kind.Made false h e = refl
kind_of_forgotten _ forget h e = absurd (let z : ⊥ = cc in z)

-- a request that is sent and forgotten arrived
pub forgotten_arrived : (v : View) (a : Arg) (forget : Bool) → is_wrong_kind v sort.AnyRequest a ≡ false → (forget && same_kind (v.kind (object_in a)) kind.Made) ≡ false
    → (not forget || same_kind (v.kind (object_in a)) kind.Request) ≡ true
forgotten_arrived v a forget h e = kind_of_forgotten (v.kind (object_in a)) forget (any_request v a h) e

pub given : {A : Type 0} (S : State A) (r : ℕ) → not (is_owned (place_of S.requests r)) ≡ false → same_kind (kind_of S.tree r) kind.Request ≡ true → is_given S r ≡ true
given S r owned k = both (is_owned (place_of S.requests r)) (same_kind (kind_of S.tree r) kind.Request) (not_false (is_owned (place_of S.requests r)) owned) k

-- ---- objects are made

class_is_deleted : (c : Option ClassInfo) → is_never_deleted (unwrap_or (option_map class_kind c) kind.General) ≡ false
class_is_deleted None = refl
class_is_deleted (Some (class.Plain name plain.Object)) = refl
class_is_deleted (Some (class.Plain name plain.SpinLock)) = refl
class_is_deleted (Some (class.Plain name plain.WaitLock)) = refl
class_is_deleted (Some (class.Plain name plain.Request)) = refl
class_is_deleted (Some (class.Deferred name deferred.Dpc parent s period)) = refl
class_is_deleted (Some (class.Deferred name deferred.Timer parent s period)) = refl
class_is_deleted (Some (class.Deferred name deferred.WorkItem parent s period)) = refl

creation_fits : {A : Type 0} (plan : Plan) (S : State A) (k : Kind) (class parent : ℕ) → is_never_deleted k ≡ false
    → is_live (life_of S.tree parent) ≡ true → is_full S.tree ≡ false → all_fit plan (creation k class parent ∷ []) S ≡ true
creation_fits plan S kind.Request class parent k live room = absurd (let z : ⊥ = cc in z)
creation_fits plan S kind.Driver class parent k live room = absurd (let z : ⊥ = cc in z)
creation_fits plan S kind.Device class parent k live room = absurd (let z : ⊥ = cc in z)
creation_fits plan S kind.Queue class parent k live room = absurd (let z : ⊥ = cc in z)
creation_fits plan S kind.Interrupt class parent k live room = absurd (let z : ⊥ = cc in z)
creation_fits plan S kind.Target class parent k live room = absurd (let z : ⊥ = cc in z)
creation_fits plan S kind.Made class parent k live room = rw (live, room) refl
creation_fits plan S kind.Dpc class parent k live room = rw (live, room) refl
creation_fits plan S kind.Timer class parent k live room = rw (live, room) refl
creation_fits plan S kind.WorkItem class parent k live room = rw (live, room) refl
creation_fits plan S kind.SpinLock class parent k live room = rw (live, room) refl
creation_fits plan S kind.WaitLock class parent k live room = rw (live, room) refl
creation_fits plan S kind.General class parent k live room = rw (live, room) refl

pub create_fits : {A : Type 0} (plan : Plan) (S : State A) (class parent : ℕ) → all_fit plan (create_outcome plan S class parent).deeds S ≡ true
create_fits plan S class parent =
    either_fits plan S (not (is_live (life_of S.tree parent))) (refused status.DeletePending)
    (if is_full S.tree then refused status.InsufficientResources else record { answer = Obj (new_handle plan S class); deeds = creation (kind_of_class plan class) class parent ∷ [] })
    (λ dead. refl)
    (λ live. either_fits plan S (is_full S.tree) (refused status.InsufficientResources) (record { answer = Obj (new_handle plan S class); deeds = creation (kind_of_class plan class) class parent ∷ [] })
    (λ full. refl)
    (λ room. creation_fits plan S (kind_of_class plan class) class parent (class_is_deleted (slice_get plan.classes class)) (not_false (is_live (life_of S.tree parent)) live) room))

-- ---- requests

pub requeue_fits : {A : Type 0} (plan : Plan) (S : State A) (r q : ℕ) → is_given S r ≡ true → all_fit plan (requeue_outcome S r q).deeds S ≡ true
requeue_fits plan S r q h =
    either_fits plan S (is_cancelled S.requests r || is_purged (mode_of S.control q)) (success (GiveBack (object_id r) (object_id q) ∷ [])) (success (Requeue (object_id r) (object_id q) ∷ []))
    (λ _. alone (is_given S r) h) (λ _. alone (is_given S r) h)

pub mark_fits : {A : Type 0} (plan : Plan) (S : State A) (r : ℕ) → is_given S r ≡ true → all_fit plan (mark_outcome plan S r).deeds S ≡ true
mark_fits plan S r h =
    either_fits plan S (declares plan callback.EvtRequestCancel (origin_or_none S r)) (record { answer = Stat (mark_answer S.requests r); deeds = MarkRequest (object_id r) ∷ [] }) (refused status.InvalidDeviceRequest)
    (λ _. alone (is_given S r) h) (λ _. refl)

pub forward_fits : {A : Type 0} (plan : Plan) (S : State A) (r q : ℕ) → is_given S r ≡ true → all_fit plan (forward_outcome plan S r q).deeds S ≡ true
forward_fits plan S r q h =
    either_fits plan S (forwards_nowhere plan S r q) (refused status.InvalidDeviceRequest)
    (if not (accepts S.control q) then refused status.WdfBusy else if is_cancelled S.requests r then success (GiveBack (object_id r) (object_id q) ∷ []) else success (Forward (object_id r) (object_id q) ∷ []))
    (λ _. refl)
    (λ _. either_fits plan S (not (accepts S.control q)) (refused status.WdfBusy) (if is_cancelled S.requests r then success (GiveBack (object_id r) (object_id q) ∷ []) else success (Forward (object_id r) (object_id q) ∷ []))
    (λ _. refl)
    (λ open_. either_fits plan S (is_cancelled S.requests r) (success (GiveBack (object_id r) (object_id q) ∷ [])) (success (Forward (object_id r) (object_id q) ∷ []))
    (λ _. alone (is_given S r) h)
    (λ _. alone (is_given S r && accepts S.control q) (both (is_given S r) (accepts S.control q) h (not_false (accepts S.control q) open_)))))

pub send_fits : {A : Type 0} (plan : Plan) (S : State A) (r t : ℕ) (forget : Bool) → is_owned (place_of S.requests r) ≡ true
    → (not forget || same_kind (kind_of S.tree r) kind.Request) ≡ true → all_fit plan (send_outcome S r t forget).deeds S ≡ true
send_fits plan S r t forget owned made =
    either_fits plan S (may_send S r t) (number 1 (SendRequest (object_id r) (object_id t) forget ∷ [])) (number 0 [])
    (λ may. alone (is_owned (place_of S.requests r) && may_send S r t && (not forget || same_kind (kind_of S.tree r) kind.Request))
    (both (is_owned (place_of S.requests r) && may_send S r t) (not forget || same_kind (kind_of S.tree r) kind.Request) (both (is_owned (place_of S.requests r)) (may_send S r t) owned may) made))
    (λ _. refl)

front_fits : {A : Type 0} (plan : Plan) (S : State A) (q : ℕ) (there : Option ℕ) → front S.queues q ≡ there → all_fit plan (retrieve_front plan S q there).deeds S ≡ true
front_fits plan S q None e = refl
front_fits plan S q (Some r) e = rw e (alone (r == r) (itself r))

pub retrieve_fits : {A : Type 0} (plan : Plan) (S : State A) (q : ℕ) → all_fit plan (retrieve_outcome plan S q).deeds S ≡ true
retrieve_fits plan S q =
    either_fits plan S (is_parallel_queue plan q) (refused status.InvalidDeviceState) (if not (queue_delivers plan S q) then refused status.WdfPaused else retrieve_front plan S q (front S.queues q))
    (λ _. refl)
    (λ _. either_fits plan S (not (queue_delivers plan S q)) (refused status.WdfPaused) (retrieve_front plan S q (front S.queues q))
    (λ _. refl)
    (λ _. front_fits plan S q (front S.queues q) refl))
