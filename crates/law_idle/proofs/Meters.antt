-- The clock and the count of arrivals, which no deed moves but those that are made for it.
use Rattle.std.proofs.Common.{if◌then◌else◌, ◌≡◌, ◌≤◌, ℕ, Bool, true, false, not, List, [], ◌∷◌, fold, refl, ◌∙◌, arith}
use Rattle.std.specs.List.{list_all}
use Rattle.wdf_base.proofs.Tests.{both_left, both_right}
use Rattle.wdf_base.specs.Meaning.{Meaning}
use Rattle.wdf_base.specs.Lives.{is_live}
use Rattle.wdf_base.specs.declared.plan.Plan.{Plan}
use Rattle.wdf_base.specs.declared.event.Event.{Event}
use Rattle.wdf_base.specs.declared.event.Event.TheVariants as event
use Rattle.wdf_base.specs.declared.object.Place.{Place}
use Rattle.wdf_base.specs.declared.object.Place.TheVariants as place
use Rattle.wdf_base.specs.declared.object.RequestInfo.{RequestInfo}
use Rattle.wdf_model.specs.declared.enums.Mode.TheVariants as mode
use Rattle.wdf_model.specs.Plans.{managed_queues, queues_of}
use Rattle.wdf_model.specs.parts.Tree.{life_of, subtree}
use Rattle.wdf_model.specs.parts.Requests as requests
use Rattle.wdf_model.specs.parts.Queues.{waiting_in}
use Rattle.wdf_model.specs.parts.Control as control
use Rattle.wdf_model.specs.State.{State, is_with_driver}
use Rattle.wdf_model.specs.declared.deed.Deed.{Deed}
use Rattle.wdf_model.specs.declared.deed.Deed.TheVariants.{Arrive, AskDeletion, CloseDevice, CloseReturning, CompleteRequest, Forward, GiveBack, MakeRequest, PassTick, PurgeQueue, Requeue, SendRequest}
use Rattle.wdf_model.specs.rules.Deeds.{arrive_at, ask_object, close_queue, close_returning, do_deed, do_deeds, give_up, give_up_if, withdraw}
use Rattle.wdf_model.specs.rules.Steps.{after, deeds}
use Rattle.law_machine_deeds.specs.MayDo.{may_do}
use Rattle.law_machine_deeds.proofs.Passing.{event_passes}

-- the clock stays, and no arrival is uncounted
pub record Steady {A : Type 0} (S U : State A) : Type 0 where
  pub clock : U.clock ≡ S.clock
  pub arrived : S.requests.arrived ≤ U.requests.arrived

same : {A : Type 0} (S U : State A) → U.clock ≡ S.clock → U.requests.arrived ≡ S.requests.arrived → Steady S U
same S U c a = record { clock = c; arrived = omega (arith, a) }

-- both stay
record Fixed {A : Type 0} (S U : State A) : Type 0 where
  clock : U.clock ≡ S.clock
  arrived : U.requests.arrived ≡ S.requests.arrived

fixed_then : {A : Type 0} (S U V : State A) → Fixed S U → Fixed U V → Fixed S V
fixed_then S U V a b = record { clock = b.clock ∙ a.clock; arrived = b.arrived ∙ a.arrived }

steady : {A : Type 0} (S U : State A) → Fixed S U → Steady S U
steady S U f = same S U f.clock f.arrived

choice : {A : Type 0} (S U V : State A) (b : Bool) → Fixed S U → Fixed S V → Fixed S (if b then U else V)
choice S U V true h k = h
choice S U V false h k = k

itself : {A : Type 0} (S : State A) → Fixed S S
itself S = record { clock = refl; arrived = refl }

asks_one : {A : Type 0} (S : State A) (o : ℕ) → Fixed S (ask_object S o)
asks_one S o = choice S _ S (is_live (life_of S.tree o)) (record { clock = refl; arrived = refl }) (itself S)

asks_all : {A : Type 0} (os : List ℕ) (S : State A) → Fixed S (fold ask_object S os)
asks_all [] S = itself S
asks_all (o ∷ os) S = fixed_then S (ask_object S o) (fold ask_object (ask_object S o) os) (asks_one S o) (asks_all os (ask_object S o))

gives : {A : Type 0} (S : State A) (r : ℕ) → Fixed S (give_up S r)
gives S r = choice S _ S (is_with_driver S r) (record { clock = refl; arrived = refl }) (itself S)

gives_if : {A : Type 0} (forget : Bool) (S : State A) (r : ℕ) → Fixed S (give_up_if forget S r)
gives_if true S r = gives S r
gives_if false S r = itself S

withdraws : {A : Type 0} (plan : Plan) (q : ℕ) (rs : List ℕ) (S : State A) → Fixed S (fold (withdraw plan q) S rs)
withdraws plan q [] S = itself S
withdraws plan q (r ∷ rs) S = fixed_then S (withdraw plan q S r) (fold (withdraw plan q) (withdraw plan q S r) rs) (record { clock = refl; arrived = refl }) (withdraws plan q rs (withdraw plan q S r))

returns : {A : Type 0} (qs : List ℕ) (S : State A) → Fixed S (fold close_returning S qs)
returns [] S = itself S
returns (q ∷ qs) S = fixed_then S (close_returning S q) (fold close_returning (close_returning S q) qs) (record { clock = refl; arrived = refl }) (returns qs (close_returning S q))

closes : {A : Type 0} (qs : List ℕ) (S : State A) → Fixed S (fold close_queue S qs)
closes [] S = itself S
closes (q ∷ qs) S = fixed_then S (close_queue S q) (fold close_queue (close_queue S q) qs) (record { clock = refl; arrived = refl }) (closes qs (close_queue S q))

arrives : {A : Type 0} (S : State A) (device : ℕ) (info : RequestInfo) (p : Place) → Steady S (arrive_at S device info p)
arrives S device info (place.Queued q) = record { clock = refl; arrived = omega arith }
arrives S device info _ = record { clock = refl; arrived = omega arith }

abbrev pub is_pass : Deed → Bool
is_pass PassTick = true
is_pass _ = false

deed_steady : {A : Type 0} (plan : Plan) (d : Deed) (S : State A) → not (is_pass d) ≡ true → Steady S (do_deed plan d S)
deed_steady plan (Arrive device info p) S h = arrives S device.0 info p
deed_steady plan (MakeRequest class parent) S h = record { clock = refl; arrived = omega arith }
deed_steady plan (AskDeletion o) S h = steady S _ (asks_all (subtree S.tree o.0) S)
deed_steady plan (Requeue r q) S h = let g = gives S r.0 in same S _ g.clock g.arrived
deed_steady plan (Forward r q) S h = let g = gives S r.0 in same S _ g.clock g.arrived
deed_steady plan (GiveBack r q) S h = let g = gives S r.0 in same S _ g.clock g.arrived
deed_steady plan (SendRequest r t forget) S h = let g = gives_if forget S r.0 in same S _ g.clock g.arrived
deed_steady {A} plan (CompleteRequest r) S h =
    let g = gives S r.0 in
    let U : State A = record (give_up S r.0) { requests = requests.complete S.requests r.0 } in
    steady S _ (fixed_then S U _ (record { clock = g.clock; arrived = refl }) (asks_all (subtree (give_up S r.0).tree r.0) U))
deed_steady {A} plan (PurgeQueue q) S h =
    let U : State A = record S { control = control.set_mode S.control q.0 mode.Purged } in
    steady S _ (fixed_then S U _ (record { clock = refl; arrived = refl }) (withdraws plan q.0 (waiting_in S.queues q.0) U))
deed_steady plan (CloseReturning d) S h = steady S _ (returns (managed_queues plan d.0) S)
deed_steady {A} plan (CloseDevice d) S h =
    let U : State A = record S { control = control.shut S.control d.0 } in
    steady S _ (fixed_then S U _ (record { clock = refl; arrived = refl }) (closes (queues_of plan d.0) U))
deed_steady plan PassTick S h = absurd (let z : ⊥ = cc in z)
deed_steady plan _ S h = record { clock = refl; arrived = omega arith }

deeds_steady : {A : Type 0} (plan : Plan) (ds : List Deed) (S : State A) → list_all (λ d. not (is_pass d)) ds ≡ true → Steady S (do_deeds plan ds S)
deeds_steady plan [] S h = record { clock = refl; arrived = omega arith }
deeds_steady plan (d ∷ ds) S h =
    let one = deed_steady plan d S (both_left (not (is_pass d)) (list_all (λ x. not (is_pass x)) ds) h) in
    let rest = deeds_steady plan ds (do_deed plan d S) (both_right (not (is_pass d)) (list_all (λ x. not (is_pass x)) ds) h) in
    record { clock = rest.clock ∙ one.clock; arrived = let a = one.arrived in let b = rest.arrived in omega arith }

abbrev pub is_tick : Event → Bool
is_tick (event.Tick time) = true
is_tick _ = false

no_pass : (e : Event) → is_tick e ≡ false → (d : Deed) → may_do e d ≡ true → not (is_pass d) ≡ true
no_pass (event.Tick time) off d h = absurd (let z : ⊥ = cc in z)
no_pass e off PassTick h = h
no_pass e off _ h = refl

-- an event that isn't a tick
pub event_steady : {A : Type 0} (plan : Plan) (m : Meaning A) (S : State A) (e : Event) → is_tick e ≡ false → Steady S (after plan m S e)
event_steady plan m S e off = let t = deeds_steady plan (deeds plan S e) S (event_passes (λ d. not (is_pass d)) plan S e (no_pass e off)) in record { clock = t.clock; arrived = t.arrived }
