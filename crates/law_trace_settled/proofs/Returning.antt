-- A request returns to a power-managed queue only while the queues of its device are up.
use Rattle.std.proofs.Common.{if◌then◌else◌, ◌≡◌, ℕ, Bool, true, false, not, ◌&&◌, ◌||◌, List, [], ◌∷◌, inl, inr, map, fold, refl, sym, ap, subst, ◌∙◌}
use Rattle.std.proofs.lemmas.Bool.{eqb-true}
use Rattle.wdf_base.specs.declared.plan.Plan.{Plan}
use Rattle.wdf_base.specs.declared.value.Status.{Status}
use Rattle.wdf_base.specs.declared.value.Status.TheVariants as status
use Rattle.wdf_base.specs.declared.object.Mark.TheVariants as marks
use Rattle.wdf_base.specs.declared.object.Place.{Place}
use Rattle.wdf_base.specs.declared.object.Place.TheVariants as place
use Rattle.wdf_base.specs.declared.object.RequestInfo.{RequestInfo}
use Rattle.wdf_base.specs.Places.{is_marked, is_returning_to}
use Rattle.wdf_model.specs.declared.enums.Mode.TheVariants as mode
use Rattle.wdf_model.specs.declared.entries.DevicePower.{DevicePower}
use Rattle.wdf_model.specs.declared.entries.Request.{Request}
use Rattle.wdf_model.specs.Tables.{entry}
use Rattle.wdf_model.specs.Plans.{device_of_queue, is_managed, managed_queues, queues_of}
use Rattle.wdf_model.specs.parts.Tree.{nearest_device, next_id, subtree}
use Rattle.wdf_model.specs.parts.Requests.{Requests, cancelled, closed_at, forgotten, info_of, is_in, is_over, made_info, marked, moved, no_request, place_of, request_of, unmarked, with_mark, with_request}
use Rattle.wdf_model.specs.parts.Requests as requests
use Rattle.wdf_model.specs.parts.Queues.{waiting_in}
use Rattle.wdf_model.specs.parts.Control as control
use Rattle.wdf_model.specs.parts.Power.{holding_of, is_held, no_device_power}
use Rattle.wdf_model.specs.parts.Targets.{is_forgotten}
use Rattle.wdf_model.specs.State.{State, is_powered, is_with_driver, returns_to, withdrawn_place}
use Rattle.wdf_model.specs.declared.deed.Deed.{Deed}
use Rattle.wdf_model.specs.declared.deed.Deed.TheVariants.{MakeRequest, Arrive, AskDeletion, EndLife, Present, Receive, Requeue, Forward, GiveBack, Withdraw, MarkRequest, UnmarkRequest, CancelRequest, TakeCancel, SendRequest, FinishSending, ComeBack, CompleteRequest, PurgeQueue, CloseReturning, CloseDevice}
use Rattle.wdf_model.specs.rules.Deeds.{arrive_at, cancel_in, close_queue, close_returning, do_deed, finished_at, give_up, give_up_if, queued, withdraw}
use Rattle.law_machine_base.specs.Fits.{fits, is_arrival_place}
use Rattle.wdf_model.proofs.Tests.{both_right, first, second}
use Rattle.wdf_model.proofs.Maps.{entry_map, entry_put_other, entry_put_same, entry_set_other, set_read}
use Rattle.wdf_model.proofs.Counts.{one_or_two}
use Rattle.law_machine_lives.proofs.Stays.{asks_all, given, given_if}
use Rattle.law_machine_lives.proofs.Readers.{requests_of}
use Rattle.law_machine_lives.proofs.Places.{marked_place, unmarked_place}
use Rattle.law_machine_counts.proofs.Arrived.{arrived_requests}
use Rattle.law_machine_counts.proofs.PowerQueues.{released_devices}

-- ---- requests

-- a request that returns to a queue returned to it before, or the queue passes a test
module _ (p : ℕ → Bool) where
  abbrev pub Comes : Requests → Requests → Type 0
  Comes R U = (r q : ℕ) → is_returning_to q (place_of U r) ≡ true → (is_returning_to q (place_of R r) || p q) ≡ true

  pub comes_same : (R U : Requests) → U ≡ R → Comes R U
  comes_same R U e r q h = first (is_returning_to q (place_of R r)) (p q) (subst (λ (V : Requests). is_returning_to q (place_of V r) ≡ true) e h)

  either_then : (x y z : Bool) → (x || y) ≡ true → (x ≡ true → (z || y) ≡ true) → (z || y) ≡ true
  either_then true y z h k = k refl
  either_then false y z h k = second z y h

  comes_then : (R U V : Requests) → Comes R U → Comes U V → Comes R V
  comes_then R U V a b r q h = either_then (is_returning_to q (place_of U r)) (p q) (is_returning_to q (place_of R r)) (b r q h) (a r q)

  comes_one : (R : Requests) (r : ℕ) (f : Request → Request) → ((q : ℕ) → is_returning_to q (f (request_of R r)).place ≡ true → (is_returning_to q (place_of R r) || p q) ≡ true) → Comes R (with_request R r f)
  comes_one R r f new x q h = elim (one_or_two x r) [
    | inl e ↦
        let here : is_returning_to q (f (request_of R r)).place ≡ true = subst (λ (y : Request). is_returning_to q y.place ≡ true) (entry_put_same no_request R.all r (f (request_of R r))) (subst (λ y. is_returning_to q (place_of (with_request R r f) y) ≡ true) e h) in
        subst (λ y. (is_returning_to q (place_of R y) || p q) ≡ true) (sym e) (new q here)
    | inr n ↦ first (is_returning_to q (place_of R x)) (p q) (subst (λ (y : Request). is_returning_to q y.place ≡ true) (entry_put_other no_request R.all r x (f (request_of R r)) n) h)
  ]

  comes_moved : (R : Requests) (r : ℕ) (to : Place) → ((q : ℕ) → is_returning_to q to ≡ true → (is_returning_to q (place_of R r) || p q) ≡ true) → Comes R (requests.move_to R r to)
  comes_moved R r to new = comes_one R r (moved to) new

  comes_away : (R : Requests) (r : ℕ) (to : Place) → ((q : ℕ) → is_returning_to q to ≡ false) → Comes R (requests.move_to R r to)
  comes_away R r to off = comes_moved R r to (λ q h. absurd (let n = off q in let z : ⊥ = cc in z))

  comes_marked : (R : Requests) (r : ℕ) (f : Request → Request) → (f (request_of R r)).place ≡ place_of R r → Comes R (with_request R r f)
  comes_marked R r f same = comes_one R r f (λ q h. first (is_returning_to q (place_of R r)) (p q) (sym (ap (is_returning_to q) same) ∙ h))

  comes_new : (R : Requests) (r : ℕ) (to : Place) (info : RequestInfo) → ((q : ℕ) → is_returning_to q to ≡ false) → Comes R (requests.arrive R r to info)
  comes_new R r to info off x q h = elim (one_or_two x r) [
    | inl e ↦
        let here : is_returning_to q to ≡ true = subst (λ (y : Request). is_returning_to q y.place ≡ true) (entry_put_same no_request R.all r (record { place = to; info = info })) (subst (λ y. is_returning_to q (place_of (requests.arrive R r to info) y) ≡ true) e h) in
        absurd (let n = off q in let z : ⊥ = cc in z)
    | inr n ↦ first (is_returning_to q (place_of R x)) (p q) (subst (λ (y : Request). is_returning_to q y.place ≡ true) (entry_put_other no_request R.all r x (record { place = to; info = info }) n) h)
  ]

  closed_by : (e : Request) (b : Bool) (q : ℕ) → is_returning_to q (if b then moved (place.Closing status.Cancelled) e else e).place ≡ true → (is_returning_to q e.place || p q) ≡ true
  closed_by e true q h = absurd (let z : ⊥ = cc in z)
  closed_by e false q h = first (is_returning_to q e.place) (p q) h

  comes_closed : (R : Requests) (here : Place → Bool) → here place.Done ≡ false → Comes R (record R { all = map (closed_at here) R.all })
  comes_closed R here off x q h =
      let blank : closed_at here no_request ≡ no_request = rw off refl in
      closed_by (request_of R x) (here (place_of R x)) q (subst (λ (y : Request). is_returning_to q y.place ≡ true) (entry_map no_request R.all (closed_at here) x blank) h)

  forgotten_by : (e : Request) (b : Bool) (q : ℕ) → is_returning_to q (if b then no_request else e).place ≡ true → (is_returning_to q e.place || p q) ≡ true
  forgotten_by e true q h = absurd (let z : ⊥ = cc in z)
  forgotten_by e false q h = first (is_returning_to q e.place) (p q) h

  comes_forgotten : (R : Requests) (r : ℕ) → Comes R (requests.forget R r)
  comes_forgotten R r x q h = elim (one_or_two x r) [
    | inl e ↦
        subst (λ y. (is_returning_to q (place_of R y) || p q) ≡ true) (sym e)
        (forgotten_by (request_of R r) (is_over (request_of R r)) q (subst (λ (y : Request). is_returning_to q y.place ≡ true) (set_read no_request forgotten R.all r refl) (subst (λ y. is_returning_to q (place_of (requests.forget R r) y) ≡ true) e h)))
    | inr n ↦ first (is_returning_to q (place_of R x)) (p q) (subst (λ (y : Request). is_returning_to q y.place ≡ true) (entry_set_other no_request R.all r x (forgotten (request_of R r)) n) h)
  ]

  comes_cancelled : (R : Requests) (r : ℕ) (to : Place) → ((q : ℕ) → is_returning_to q to ≡ true → p q ≡ true) → Comes R (requests.move_to (requests.cancel R r) r to)
  comes_cancelled R r to new =
      comes_then R (requests.cancel R r) (requests.move_to (requests.cancel R r) r to) (comes_marked R r cancelled refl)
      (comes_moved (requests.cancel R r) r to (λ q h. second (is_returning_to q (place_of (requests.cancel R r) r)) (p q) (new q h)))

  pub all_returning : {A : Type 0} (qs : List ℕ) (S : State A) → Comes S.requests (fold close_returning S qs).requests
  all_returning [] S = comes_same S.requests S.requests refl
  all_returning (q ∷ qs) S = comes_then S.requests (close_returning S q).requests (fold close_returning (close_returning S q) qs).requests (comes_closed S.requests (is_returning_to q) refl) (all_returning qs (close_returning S q))

  pub all_closed : {A : Type 0} (qs : List ℕ) (S : State A) → Comes S.requests (fold close_queue S qs).requests
  all_closed [] S = comes_same S.requests S.requests refl
  all_closed (q ∷ qs) S = comes_then S.requests (close_queue S q).requests (fold close_queue (close_queue S q) qs).requests (comes_closed S.requests (is_in q) refl) (all_closed qs (close_queue S q))

-- ---- a request is cancelled in a queue

pub powered_same : {A : Type 0} (plan : Plan) (S U : State A) → U.power.devices ≡ S.power.devices → (q : ℕ) → is_powered plan U q ≡ is_powered plan S q
powered_same plan S U e q = ap (λ (D : List DevicePower). not (is_managed plan q) || (entry no_device_power D (device_of_queue plan q)).up) e

withdrawn_by : (q x : ℕ) (b : Bool) → is_returning_to x (if b then place.Returning (record { 0 = q }) else place.Closing status.Cancelled) ≡ true → (b ≡ true) × (q ≡ x)
withdrawn_by q x true h = (refl, eqb-true q x h)
withdrawn_by q x false h = absurd (let z : ⊥ = cc in z)

withdrawn_powered : {A : Type 0} (plan : Plan) (U : State A) (q r x : ℕ) → is_returning_to x (withdrawn_place plan U q r) ≡ true → is_powered plan U x ≡ true
withdrawn_powered plan U q r x h =
    let t = withdrawn_by q x ((info_of U.requests r).received && returns_to plan U q) h in
    let goes : returns_to plan U q ≡ true = both_right (info_of U.requests r).received (returns_to plan U q) t.0 in
    let now : is_powered plan U q ≡ true = search both_right in
    subst (λ y. is_powered plan U y ≡ true) t.1 now

purged : {A : Type 0} (plan : Plan) (q : ℕ) (rs : List ℕ) (S : State A) → Comes (is_powered plan S) S.requests (fold (withdraw plan q) S rs).requests
purged plan q [] S = comes_same (is_powered plan S) S.requests S.requests refl
purged plan q (r ∷ rs) S =
    comes_then (is_powered plan S) S.requests (withdraw plan q S r).requests (fold (withdraw plan q) (withdraw plan q S r) rs).requests
    (comes_cancelled (is_powered plan S) S.requests r (withdrawn_place plan S q r) (λ x h. withdrawn_powered plan S q r x h))
    (purged plan q rs (withdraw plan q S r))

-- ---- what is given up

given_by : {A : Type 0} (S U : State A) (b : Bool) → U.power.devices ≡ S.power.devices → (if b then U else S).power.devices ≡ S.power.devices
given_by S U true h = h
given_by S U false h = refl

given_devices : {A : Type 0} (S : State A) (r : ℕ) → (give_up S r).power.devices ≡ S.power.devices
given_devices S r = given_by S _ (is_with_driver S r) (released_devices S.power r (is_held (holding_of S.power r)))

pub given_requests : {A : Type 0} (S : State A) (r : ℕ) → (give_up S r).requests ≡ S.requests
given_requests S r = given requests_of (λ S Q P. refl) S r

-- ---- deeds

arrival_off : (p : Place) (q : ℕ) → is_arrival_place p ≡ true → is_returning_to q p ≡ false
arrival_off (place.Returning x) q h = absurd (let z : ⊥ = cc in z)
arrival_off _ q h = refl

finished_off : (b : Bool) (s : Status) (p : Place) (q : ℕ) → is_returning_to q (finished_at b s p) ≡ true → is_returning_to q p ≡ true
finished_off true s p q h = absurd (let z : ⊥ = cc in z)
finished_off false s p q h = h

module _ {A : Type 0} (plan : Plan) (S : State A) where
  abbrev p : ℕ → Bool
  p = is_powered plan S

  moves_given : (r : ℕ) (to : Place) → ((q : ℕ) → is_returning_to q to ≡ false) → Comes p S.requests (requests.move_to (give_up S r).requests r to)
  moves_given r to off = comes_then p S.requests (give_up S r).requests (requests.move_to (give_up S r).requests r to) (comes_same p S.requests (give_up S r).requests (given_requests S r)) (comes_away p (give_up S r).requests r to off)

  sends : (r : ℕ) (forget : Bool) (to : Place) → ((q : ℕ) → is_returning_to q to ≡ false) → Comes p S.requests (requests.move_to (give_up_if forget S r).requests r to)
  sends r forget to off =
      comes_then p S.requests (give_up_if forget S r).requests (requests.move_to (give_up_if forget S r).requests r to)
      (comes_same p S.requests (give_up_if forget S r).requests (given_if requests_of (λ S Q P. refl) S forget r)) (comes_away p (give_up_if forget S r).requests r to off)

  gives_back : (r q : ℕ) → Comes p S.requests (cancel_in plan (give_up S r) q r).requests
  gives_back r q =
      comes_then p S.requests (give_up S r).requests (cancel_in plan (give_up S r) q r).requests (comes_same p S.requests (give_up S r).requests (given_requests S r))
      (comes_cancelled p (give_up S r).requests r (withdrawn_place plan (give_up S r) q r)
      (λ x h. sym (powered_same plan S (give_up S r) (given_devices S r) x) ∙ withdrawn_powered plan (give_up S r) q r x h))

  pub by_deed : (d : Deed) → fits plan d S ≡ true → Comes p S.requests (do_deed plan d S).requests
  by_deed (MakeRequest class parent) f = comes_new p S.requests (next_id S.tree) place.Owned (made_info (nearest_device S.tree parent.0)) (λ q. refl)
  by_deed (Arrive device info to) f =
      let is : is_arrival_place to ≡ true = search both_right in
      comes_then p S.requests (requests.arrive S.requests (next_id S.tree) to info) (arrive_at S device.0 info to).requests (comes_new p S.requests (next_id S.tree) to info (λ q. arrival_off to q is))
      (comes_same p (requests.arrive S.requests (next_id S.tree) to info) (arrive_at S device.0 info to).requests (arrived_requests S device.0 info to))
  by_deed (AskDeletion o) f = comes_same p S.requests _ (asks_all requests_of (λ S T D W U. refl) (subtree S.tree o.0) S)
  by_deed (EndLife o) f = comes_forgotten p S.requests o.0
  by_deed (Present q r) f = comes_away p S.requests r.0 place.Owned (λ q. refl)
  by_deed (Receive q r) f = comes_away p S.requests r.0 place.Owned (λ q. refl)
  by_deed (Requeue r q) f = moves_given r.0 (queued q.0) (λ q. refl)
  by_deed (Forward r q) f = moves_given r.0 (queued q.0) (λ q. refl)
  by_deed (GiveBack r q) f = gives_back r.0 q.0
  by_deed (Withdraw q r) f = comes_cancelled p S.requests r.0 (withdrawn_place plan S q.0 r.0) (λ x h. withdrawn_powered plan S q.0 r.0 x h)
  by_deed (MarkRequest r) f = comes_marked p S.requests r.0 marked (marked_place (request_of S.requests r.0) (request_of S.requests r.0).info.cancelled)
  by_deed (UnmarkRequest r) f = comes_marked p S.requests r.0 unmarked (unmarked_place (request_of S.requests r.0) (is_marked (request_of S.requests r.0).info.mark))
  by_deed (CancelRequest r) f = comes_marked p S.requests r.0 cancelled refl
  by_deed (TakeCancel r) f = comes_marked p S.requests r.0 (with_mark marks.Taken) refl
  by_deed (SendRequest r t forget) f = sends r.0 forget (place.Sent (record { 0 = t.0 })) (λ q. refl)
  by_deed (FinishSending r s) f =
      comes_moved p S.requests r.0 (finished_at (is_forgotten S.targets r.0) s (place_of S.requests r.0))
      (λ q h. first (is_returning_to q (place_of S.requests r.0)) (p q) (finished_off (is_forgotten S.targets r.0) s (place_of S.requests r.0) q h))
  by_deed (ComeBack r) f = comes_away p S.requests r.0 place.Owned (λ q. refl)
  by_deed (CompleteRequest r) f =
      comes_then p S.requests (requests.complete S.requests r.0) (do_deed plan (CompleteRequest r) S).requests (comes_away p S.requests r.0 place.Done (λ q. refl))
      (comes_same p (requests.complete S.requests r.0) (do_deed plan (CompleteRequest r) S).requests (asks_all requests_of (λ S T D W U. refl) (subtree (give_up S r.0).tree r.0) (record (give_up S r.0) { requests = requests.complete S.requests r.0 })))
  by_deed (PurgeQueue q) f = purged plan q.0 (waiting_in S.queues q.0) (record S { control = control.set_mode S.control q.0 mode.Purged })
  by_deed (CloseReturning x) f = all_returning p (managed_queues plan x.0) S
  by_deed (CloseDevice x) f = all_closed p (queues_of plan x.0) (record S { control = control.shut S.control x.0 })
  by_deed _ f = comes_same p S.requests S.requests refl
