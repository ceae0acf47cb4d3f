-- What an event leaves of the requests where no owner acts on one of them.
use Rattle.std.proofs.Common.{◌≡◌, ℕ, ◌<◌, Bool, true, false, not, ◌||◌, List, [], ◌∷◌, length, refl, arith}
use Rattle.std.specs.List.{list_all}
use Rattle.wdf_base.specs.declared.plan.Plan.{Plan}
use Rattle.wdf_base.specs.declared.call.CallKind.{CallKind}
use Rattle.wdf_base.specs.declared.call.CallKind.TheVariants as call
use Rattle.wdf_base.specs.declared.event.Event.{Event}
use Rattle.wdf_model.specs.State.{State}
use Rattle.wdf_model.specs.declared.deed.Deed.{Deed}
use Rattle.wdf_model.specs.declared.deed.Deed.TheVariants.{CompleteRequest, Forward, GiveBack, MarkRequest, Requeue, SendRequest, UnmarkRequest}
use Rattle.wdf_model.specs.rules.Deeds.{do_deed, do_deeds}
use Rattle.wdf_model.specs.rules.Steps.{deeds}
use Rattle.law_machine_base.specs.Fits.{all_fit, fits}
use Rattle.wdf_model.proofs.Tests.{both_left, both_right, not_true, second}
use Rattle.law_machine_base.proofs.KeptByDeeds.{deed_keeps}
pub use Rattle.law_free_runs.proofs.Places.{Places}
use Rattle.law_machine_deeds.specs.MayDo.{calls, first_part, gives_back, gives_to_head, is_completion, may_do}
use Rattle.law_machine_deeds.proofs.Walk.{all_pass, event_may}
use Rattle.law_machine_deeds.proofs.Passing.{calls_among, first_among}
use Rattle.law_lint.proofs.Grips.{Apart, LaterAt, at_same, at_then, deed_later}
use Rattle.law_machine_lives.proofs.AllOf.{AllOf, all_such}

-- ---- the deeds of owners

abbrev pub is_owners : Deed → Bool
is_owners (Requeue r q) = true
is_owners (Forward r q) = true
is_owners (GiveBack r q) = true
is_owners (MarkRequest r) = true
is_owners (UnmarkRequest r) = true
is_owners (SendRequest r t forget) = true
is_owners (CompleteRequest r) = true
is_owners _ = false

pub apart_of : {A : Type 0} (d : Deed) (S : State A) (x : ℕ) → is_owners d ≡ false → Apart d S x
apart_of (Requeue r q) S x h = absurd (let z : ⊥ = cc in z)
apart_of (Forward r q) S x h = absurd (let z : ⊥ = cc in z)
apart_of (GiveBack r q) S x h = absurd (let z : ⊥ = cc in z)
apart_of (MarkRequest r) S x h = absurd (let z : ⊥ = cc in z)
apart_of (UnmarkRequest r) S x h = absurd (let z : ⊥ = cc in z)
apart_of (SendRequest r t forget) S x h = absurd (let z : ⊥ = cc in z)
apart_of (CompleteRequest r) S x h = absurd (let z : ⊥ = cc in z)
apart_of _ S x h = tt

abbrev pub AllApart : {A : Type 0} → Plan → List Deed → State A → ℕ → Type 0
AllApart {A} plan ds S x = AllOf plan (λ (d : Deed) (U : State A). Apart d U x) ds S

pub all_apart : {A : Type 0} (plan : Plan) (ds : List Deed) (S : State A) (x : ℕ) → list_all (λ d. not (is_owners d)) ds ≡ true → AllApart plan ds S x
all_apart {A} plan ds S x h = all_such plan (λ (d : Deed) (U : State A). Apart d U x) (λ d. not (is_owners d)) (λ d U k. apart_of d U x (not_true (is_owners d) k)) ds S h

pub deeds_later : {A : Type 0} (plan : Plan) (ds : List Deed) (S : State A) (x : ℕ) → all_fit plan ds S ≡ true → Places S → x < length S.requests.all → AllApart plan ds S x
    → LaterAt x S.requests (do_deeds plan ds S).requests
deeds_later plan [] S x f k old a = at_same x S.requests S.requests refl
deeds_later plan (d ∷ ds) S x f k old a =
    let fit : fits plan d S ≡ true = both_left (fits plan d S) (all_fit plan ds (do_deed plan d S)) f in
    let one : LaterAt x S.requests (do_deed plan d S).requests = deed_later plan d S x fit k old a.0 in
    let more : x < length (do_deed plan d S).requests.all = let long = one.long in omega arith in
    at_then x S.requests (do_deed plan d S).requests (do_deeds plan ds (do_deed plan d S)).requests one
    (deeds_later plan ds (do_deed plan d S) x (both_right (fits plan d S) (all_fit plan ds (do_deed plan d S)) f) (deed_keeps plan d S fit (λ _. refl) k) more a.1)

-- ---- the events of owners

-- the calls by which an owner gives its request up, or changes its mark
abbrev pub is_owners_call : CallKind → Bool
is_owners_call call.WdfRequestComplete = true
is_owners_call call.WdfRequestRequeue = true
is_owners_call call.WdfRequestForwardToIoQueue = true
is_owners_call call.WdfRequestSend = true
is_owners_call call.WdfRequestMarkCancelableEx = true
is_owners_call call.WdfRequestUnmarkCancelable = true
is_owners_call call.WdfRequestStopAcknowledge = true
is_owners_call _ = false

abbrev pub is_owners_event : Event → Bool
is_owners_event e = is_completion e || first_part is_owners_call e

or_either : (a b c : Bool) → (a || b) ≡ true → (b ≡ true → c ≡ true) → (a || c) ≡ true
or_either true b c h k = refl
or_either false b c h k = k h

heads_owned : (k : CallKind) → gives_to_head k ≡ true → is_owners_call k ≡ true
heads_owned call.WdfRequestRequeue h = refl
heads_owned call.WdfRequestStopAcknowledge h = refl
heads_owned _ h = absurd (let z : ⊥ = cc in z)

backs_owned : (k : CallKind) → gives_back k ≡ true → is_owners_call k ≡ true
backs_owned call.WdfRequestRequeue h = refl
backs_owned call.WdfRequestForwardToIoQueue h = refl
backs_owned call.WdfRequestStopAcknowledge h = refl
backs_owned _ h = absurd (let z : ⊥ = cc in z)

pub owners_event : (e : Event) (d : Deed) → is_owners d ≡ true → may_do e d ≡ true → is_owners_event e ≡ true
owners_event e (Requeue r q) o h = second (is_completion e) (first_part is_owners_call e) (first_among gives_to_head is_owners_call e heads_owned h)
owners_event e (Forward r q) o h = second (is_completion e) (first_part is_owners_call e) (calls_among call.WdfRequestForwardToIoQueue is_owners_call e refl h)
owners_event e (GiveBack r q) o h = second (is_completion e) (first_part is_owners_call e) (first_among gives_back is_owners_call e backs_owned h)
owners_event e (MarkRequest r) o h = second (is_completion e) (first_part is_owners_call e) (calls_among call.WdfRequestMarkCancelableEx is_owners_call e refl h)
owners_event e (UnmarkRequest r) o h = second (is_completion e) (first_part is_owners_call e) (calls_among call.WdfRequestUnmarkCancelable is_owners_call e refl h)
owners_event e (SendRequest r t forget) o h = second (is_completion e) (first_part is_owners_call e) (calls_among call.WdfRequestSend is_owners_call e refl h)
owners_event e (CompleteRequest r) o h = or_either (is_completion e) (calls call.WdfRequestComplete e) (first_part is_owners_call e) h (λ k. calls_among call.WdfRequestComplete is_owners_call e refl k)
owners_event e _ o h = absurd (let z : ⊥ = cc in z)

pub not_owners : (e : Event) → is_owners_event e ≡ false → (d : Deed) → may_do e d ≡ true → not (is_owners d) ≡ true
not_owners e off d h = by (is_owners d) refl
  where
    by : (b : Bool) → is_owners d ≡ b → not b ≡ true
    by true o = absurd (let yes = owners_event e d o h in let z : ⊥ = cc in z)
    by false o = refl

-- an event that isn't an owner's leaves each request that is there as others may
pub event_later : {A : Type 0} (plan : Plan) (S : State A) (e : Event) (x : ℕ) → is_owners_event e ≡ false → all_fit plan (deeds plan S e) S ≡ true → Places S → x < length S.requests.all
    → LaterAt x S.requests (do_deeds plan (deeds plan S e) S).requests
event_later plan S e x off f k old =
    deeds_later plan (deeds plan S e) S x f k old
    (all_apart plan (deeds plan S e) S x (all_pass (may_do e) (λ d. not (is_owners d)) (not_owners e off) (deeds plan S e) (event_may plan S e)))
