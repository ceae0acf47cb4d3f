-- A state counts the events of its run, which are no more than the limit.
use Rattle.std.proofs.Common.{if◌then◌else◌, ◌≡◌, ℕ, ◌+◌, ◌<◌, ◌≤◌, Bool, true, false, nat_lt, List, [], ◌∷◌, ◌++◌, Option, Some, None, length, take, slice_get, refl, sym, ap, subst, ◌∙◌, arith, length-append}
use Rattle.std.proofs.lemmas.Bool.{ltb-true}
use Rattle.wdf_base.specs.Meaning.{Meaning}
use Rattle.wdf_base.specs.declared.plan.Plan.{Plan}
use Rattle.wdf_base.specs.declared.event.Event.{Event}
use Rattle.wdf_base.specs.declared.event.Fault.{Fault}
use Rattle.wdf_base.specs.declared.object.Place.{Place}
use Rattle.wdf_base.specs.declared.object.Place.TheVariants as place
use Rattle.wdf_base.specs.declared.object.RequestInfo.{RequestInfo}
use Rattle.wdf_model.specs.declared.enums.Mode.TheVariants as mode
use Rattle.wdf_model.specs.Plans.{managed_queues, queues_of}
use Rattle.wdf_model.specs.parts.Tree.{subtree}
use Rattle.wdf_model.specs.parts.Queues.{waiting_in}
use Rattle.wdf_model.specs.parts.Requests as requests
use Rattle.wdf_model.specs.parts.Control as control
use Rattle.wdf_model.specs.State.{State}
use Rattle.wdf_model.specs.declared.deed.Deed.{Deed}
use Rattle.wdf_model.specs.declared.deed.Deed.TheVariants.{Arrive, AskDeletion, Requeue, Forward, GiveBack, SendRequest, CompleteRequest, PurgeQueue, CloseReturning, CloseDevice}
use Rattle.wdf_model.specs.rules.Deeds.{arrive_at, do_deed, do_deeds, give_up}
use Rattle.wdf_model.specs.rules.Steps.{after, deeds}
use Rattle.wdf_model.specs.rules.Ready.{IsRunOf, allowed, last_fault, or_tick, ready, ready_in, state_after, unless_fault}
use Rattle.wdf_model.proofs.Runs.{along_run}
use Rattle.law_machine_base.proofs.Follows.{state_goes_on}
use Rattle.law_machine_lives.proofs.Stays.{asks_all, gives_up, gives_up_if, withdraws, returns_closed, queues_closed}
use Rattle.std.proofs.lemmas.List.{take_all}

arrived : {A : Type 0} (S : State A) (device : ℕ) (info : RequestInfo) (p : Place) → (arrive_at S device info p).number ≡ S.number
arrived S device info (place.Queued q) = refl
arrived S device info _ = refl

deed_keeps : {A : Type 0} (plan : Plan) (d : Deed) (S : State A) → (do_deed plan d S).number ≡ S.number
deed_keeps plan (Arrive device info p) S = arrived S device.0 info p
deed_keeps {A} plan (AskDeletion o) S = asks_all (λ (U : State A). U.number) (λ S T D W U. refl) (subtree S.tree o.0) S
deed_keeps {A} plan (Requeue r p) S = gives_up (λ (U : State A). U.number) (λ S Q R P. refl) S r.0
deed_keeps {A} plan (Forward r p) S = gives_up (λ (U : State A). U.number) (λ S Q R P. refl) S r.0
deed_keeps {A} plan (GiveBack r p) S = gives_up (λ (U : State A). U.number) (λ S Q R P. refl) S r.0
deed_keeps {A} plan (SendRequest r t forget) S = gives_up_if (λ (U : State A). U.number) (λ S Q R P. refl) S forget r.0
deed_keeps {A} plan (CompleteRequest r) S =
    asks_all (λ (U : State A). U.number) (λ S T D W U. refl) (subtree (give_up S r.0).tree r.0) (record (give_up S r.0) { requests = requests.complete S.requests r.0 })
    ∙ gives_up (λ (U : State A). U.number) (λ S Q R P. refl) S r.0
deed_keeps {A} plan (PurgeQueue p) S = withdraws (λ (U : State A). U.number) (λ S Q R P. refl) plan p.0 (waiting_in S.queues p.0) (record S { control = control.set_mode S.control p.0 mode.Purged })
deed_keeps {A} plan (CloseReturning d) S = returns_closed (λ (U : State A). U.number) (λ S Q R P. refl) (managed_queues plan d.0) S
deed_keeps {A} plan (CloseDevice d) S = queues_closed (λ (U : State A). U.number) (λ S Q R P. refl) (queues_of plan d.0) (record S { control = control.shut S.control d.0 })
deed_keeps plan _ S = refl

deeds_keep_number : {A : Type 0} (plan : Plan) (ds : List Deed) (S : State A) → (do_deeds plan ds S).number ≡ S.number
deeds_keep_number plan [] S = refl
deeds_keep_number plan (d ∷ ds) S = deeds_keep_number plan ds (do_deed plan d S) ∙ deed_keeps plan d S

opening_number : {A : Type 0} (plan : Plan) (m : Meaning A) → (state_after plan m []).number ≡ 0
unfolding state_after
opening_number plan m = refl

-- the number of a state is that of the events of its run
number_by : {A : Type 0} (plan : Plan) (m : Meaning A) (run : List Event) → IsRunOf plan m run → (n : ℕ) → (state_after plan m (take n run)).number ≡ length (take n run)
number_by {A} plan m run is_run n =
    along_run (λ es. (state_after plan m es).number ≡ length es) (ready plan m) run (opening_number plan m)
    (λ before e place so_far held at.
    let S = state_after plan m before in
    let next : (state_after plan m (before ++ e ∷ [])).number ≡ (after plan m S e).number = ap (λ (U : State A). U.number) (state_goes_on plan m before e) in
    let same : (after plan m S e).number ≡ S.number + 1 = ap (λ k. k + 1) (deeds_keep_number plan (deeds plan S e) S) in
    let long : length (before ++ e ∷ []) ≡ length before + 1 = length-append before (e ∷ []) in
    next ∙ same ∙ ap (λ k. k + 1) held ∙ sym long)
    is_run n

pub number_is : {A : Type 0} (plan : Plan) (m : Meaning A) (run : List Event) → IsRunOf plan m run → (state_after plan m run).number ≡ length run
number_is plan m run is_run = subst (λ (es : List Event). (state_after plan m es).number ≡ length es) (take_all (length run) run (omega arith)) (number_by plan m run is_run (length run))

-- ---- what follows is below the limit

below_by : (b : Bool) (es : List Event) (k : ℕ) (e : Event) → slice_get (if b then es else []) k ≡ Some e → b ≡ true
below_by true es k e h = refl
below_by false es k e h = absurd (let z : ⊥ = cc in z)

below_unless : {A : Type 0} (plan : Plan) (m : Meaning A) (S : State A) (x : Option Fault) (k : ℕ) (e : Event) → slice_get (unless_fault x (ready_in plan m S)) k ≡ Some e → nat_lt S.number plan.limit ≡ true
below_unless plan m S None k e h = below_by (nat_lt S.number plan.limit) (or_tick m S (allowed plan m S)) k e h
below_unless plan m S (Some x) k e h = absurd (let z : ⊥ = cc in z)

below_limit : {A : Type 0} (plan : Plan) (m : Meaning A) (run : List Event) (k : ℕ) (e : Event) → slice_get (ready plan m run) k ≡ Some e → nat_lt (state_after plan m run).number plan.limit ≡ true
unfolding ready
below_limit plan m run k e h = below_unless plan m (state_after plan m run) (last_fault run) k e h

within_by : {A : Type 0} (plan : Plan) (m : Meaning A) (run : List Event) → IsRunOf plan m run → (n : ℕ) → length (take n run) ≤ plan.limit
within_by plan m run is_run n =
    along_run (λ es. length es ≤ plan.limit) (ready plan m) run (omega arith)
    (λ before e place so_far held at.
    let small : (state_after plan m before).number < plan.limit = ltb-true (state_after plan m before).number plan.limit (below_limit plan m before place e at) in
    let same = number_is plan m before so_far in
    let long : length (before ++ e ∷ []) ≡ length before + 1 = length-append before (e ∷ []) in
    omega (arith, small, same, long))
    is_run n

pub within_limit_of : {A : Type 0} (plan : Plan) (m : Meaning A) (run : List Event) → IsRunOf plan m run → length run ≤ plan.limit
within_limit_of plan m run is_run = subst (λ (es : List Event). length es ≤ plan.limit) (take_all (length run) run (omega arith)) (within_by plan m run is_run (length run))
