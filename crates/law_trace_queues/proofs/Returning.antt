-- A request returns to a power-managed queue only while the queues of its device are up. Each deed that leaves the power
-- of devices alone keeps this, and so does `queues_down`, which closes what returns to them.
use Rattle.std.proofs.Common.{if◌then◌else◌, ◌≡◌, ◌≢◌, ℕ, zero, suc, ◌==◌, ◌<◌, Bool, true, false, not, ◌&&◌, ◌||◌, List, [], ◌∷◌, inl, inr, Option, Some, None, filter, fold, map, length, option_map, unwrap_or, refl, sym, ap, subst, ◌∙◌, arith}
use Rattle.std.proofs.lemmas.Bool.{eqb-true}
use Rattle.std.proofs.lemmas.Option.{slice_get_within}
use Rattle.wdf_base.specs.Plan.{declared_of}
use Rattle.wdf_base.specs.declared.ids.ObjectId.{ObjectId}
use Rattle.wdf_base.specs.declared.plan.Plan.{Plan}
use Rattle.wdf_base.specs.declared.value.Status.{Status}
use Rattle.wdf_base.specs.declared.value.Status.TheVariants as status
use Rattle.wdf_base.specs.declared.declared.Declared.{Declared}
use Rattle.wdf_base.specs.declared.declared.QueueInfo.{QueueInfo}
use Rattle.wdf_base.specs.declared.object.Mark.TheVariants as marks
use Rattle.wdf_base.specs.declared.object.Place.{Place}
use Rattle.wdf_base.specs.declared.object.Place.TheVariants as place
use Rattle.wdf_base.specs.declared.object.RequestInfo.{RequestInfo}
use Rattle.wdf_base.specs.declared.call.Callback.TheVariants as callback
use Rattle.wdf_base.specs.Places.{is_marked, is_returning_to}
use Rattle.wdf_model.specs.declared.enums.Mode.TheVariants as mode
use Rattle.wdf_model.specs.declared.entries.DevicePower.{DevicePower}
use Rattle.wdf_model.specs.declared.entries.Request.{Request}
use Rattle.wdf_model.specs.Tables.{contains, entry}
use Rattle.wdf_model.specs.Plans.{as_queue, declares, device_of_queue, is_managed, is_queue_of, managed_queues, queue_of, queues_of}
use Rattle.wdf_model.specs.parts.Tree.{nearest_device, next_id, subtree}
use Rattle.wdf_model.specs.parts.Queues.{waiting_in}
use Rattle.wdf_model.specs.parts.Control as control
use Rattle.wdf_model.specs.parts.Control.{is_closed}
use Rattle.wdf_model.specs.parts.Power.{holding_of, is_held, no_device_power}
use Rattle.wdf_model.specs.parts.Requests.{Requests, cancelled, closed_at, forgotten, info_of, is_in, is_over, made_info, marked, moved, no_request, place_of, request_of, unmarked, with_mark, with_request}
use Rattle.wdf_model.specs.parts.Requests as requests
use Rattle.wdf_model.specs.parts.Targets.{is_forgotten}
use Rattle.wdf_model.specs.State.{State, is_powered, is_with_driver, returns_to, withdrawn_place}
use Rattle.wdf_model.specs.Ids.{object_id}
use Rattle.wdf_model.specs.declared.deed.Deed.{Deed}
use Rattle.wdf_model.specs.declared.deed.Deed.TheVariants.{Arrive, AskDeletion, CancelRequest, CloseDevice, CloseReturning, ComeBack, CompleteRequest, EndLife, FinishSending, Forward, GiveBack, MakeRequest, MarkRequest, Present, PurgeQueue, Receive, Requeue, SendRequest, TakeCancel, UnmarkRequest, Withdraw}
use Rattle.wdf_model.specs.rules.Deeds.{arrive_at, cancel_in, close_queue, close_returning, do_deed, finished_at, give_up, give_up_if, queued, withdraw}
use Rattle.wdf_model.proofs.Tests.{both_right, first, second}
use Rattle.wdf_model.proofs.Maps.{entry_map, entry_put_other, entry_put_same, entry_set_other, set_read}
use Rattle.wdf_model.proofs.Counts.{equal, one_or_two}
use Rattle.law_machine_counts.proofs.Exchanges.{contained}
use Rattle.law_machine_lives.proofs.Sound.{Sound}
use Rattle.law_machine_lives.proofs.Stays.{asks_all, given, given_if}
use Rattle.law_machine_lives.proofs.Readers.{requests_of}
use Rattle.law_machine_lives.proofs.Places.{marked_place, unmarked_place}
use Rattle.law_machine_counts.proofs.PowerQueues.{released_devices}

-- ---- the property

-- a queue has power that isn't power-managed, or whose device's queues are up
abbrev pub powered_by : Plan → List DevicePower → ℕ → Bool
powered_by plan D q = not (is_managed plan q) || (entry no_device_power D (device_of_queue plan q)).up

-- each queue to which a request returns has power
abbrev pub Backed : Plan → List DevicePower → Requests → Type 0
Backed plan D R = (x q : ℕ) → is_returning_to q (place_of R x) ≡ true → powered_by plan D q ≡ true

abbrev devices_of : {A : Type 0} → State A → List DevicePower
devices_of S = S.power.devices

given_by : {A : Type 0} (S U : State A) (b : Bool) → devices_of U ≡ devices_of S → devices_of (if b then U else S) ≡ devices_of S
given_by S U true h = h
given_by S U false h = refl

given_devices : {A : Type 0} (S : State A) (r : ℕ) → devices_of (give_up S r) ≡ devices_of S
given_devices S r = given_by S _ (is_with_driver S r) (released_devices S.power r (is_held (holding_of S.power r)))

module _ (plan : Plan) (D : List DevicePower) where
  abbrev At : Place → Type 0
  At p = (q : ℕ) → is_returning_to q p ≡ true → powered_by plan D q ≡ true

  -- ---- one request changes

  one_changes : (R : Requests) (r : ℕ) (f : Request → Request) → At (f (request_of R r)).place → Backed plan D R → Backed plan D (with_request R r f)
  one_changes R r f new k x = elim (one_or_two x r) [
    | inl e ↦ rw e (subst (λ (y : Request). At y.place) (sym (entry_put_same no_request R.all r (f (request_of R r)))) new)
    | inr n ↦ subst (λ (y : Request). At y.place) (sym (entry_put_other no_request R.all r x (f (request_of R r)) n)) (k x)
  ]

  moves : (R : Requests) (r : ℕ) (p : Place) → At p → Backed plan D R → Backed plan D (requests.move_to R r p)
  moves R r p new k = one_changes R r (moved p) new k

  same_place : (R : Requests) (r : ℕ) (f : Request → Request) → ((e : Request) → (f e).place ≡ e.place) → Backed plan D R → Backed plan D (with_request R r f)
  same_place R r f same k = one_changes R r f (subst At (sym (same (request_of R r))) (k r)) k

  new_one : (R : Requests) (r : ℕ) (p : Place) (info : RequestInfo) → At p → Backed plan D R → Backed plan D (requests.arrive R r p info)
  new_one R r p info new k x = elim (one_or_two x r) [
    | inl e ↦ rw e (subst (λ (y : Request). At y.place) (sym (entry_put_same no_request R.all r (record { place = p; info = info }))) new)
    | inr n ↦ subst (λ (y : Request). At y.place) (sym (entry_put_other no_request R.all r x (record { place = p; info = info }) n)) (k x)
  ]

  at_owned : At place.Owned
  at_owned q h = absurd (let z : ⊥ = cc in z)

  at_done : At place.Done
  at_done q h = absurd (let z : ⊥ = cc in z)

  at_queued : (x : ObjectId) → At (place.Queued x)
  at_queued x q h = absurd (let z : ⊥ = cc in z)

  at_sent : (x : ObjectId) → At (place.Sent x)
  at_sent x q h = absurd (let z : ⊥ = cc in z)

  at_closing : (s : Status) → At (place.Closing s)
  at_closing s q h = absurd (let z : ⊥ = cc in z)

  at_finished : (b : Bool) (s : Status) (p : Place) → At p → At (finished_at b s p)
  at_finished true s p k = at_closing s
  at_finished false s p k = k

  -- ---- all requests

  closed_by : (e : Request) (b : Bool) → At e.place → At (if b then moved (place.Closing status.Cancelled) e else e).place
  closed_by e true k = at_closing status.Cancelled
  closed_by e false k = k

  all_close : (R : Requests) (here : Place → Bool) → here place.Done ≡ false → Backed plan D R → Backed plan D (record R { all = map (closed_at here) R.all })
  all_close R here off k x =
      let blank : closed_at here no_request ≡ no_request = rw off refl in
      subst (λ (y : Request). At y.place) (sym (entry_map no_request R.all (closed_at here) x blank)) (closed_by (request_of R x) (here (request_of R x).place) (k x))

  forgotten_by : (e : Request) (b : Bool) → At e.place → At (if b then no_request else e).place
  forgotten_by e true k = at_done
  forgotten_by e false k = k

  forgets : (R : Requests) (r : ℕ) → Backed plan D R → Backed plan D (requests.forget R r)
  forgets R r k x = elim (one_or_two x r) [
    | inl e ↦ rw e (subst (λ (y : Request). At y.place) (sym (set_read no_request forgotten R.all r refl)) (forgotten_by (request_of R r) (is_over (request_of R r)) (k r)))
    | inr n ↦ subst (λ (y : Request). At y.place) (sym (entry_set_other no_request R.all r x (forgotten (request_of R r)) n)) (k x)
  ]

  -- ---- a request is cancelled in a queue

  returned_at : (b : Bool) (q : ℕ) → (b ≡ true → powered_by plan D q ≡ true) → At (if b then place.Returning (record { 0 = q }) else place.Closing status.Cancelled)
  returned_at true q h = λ p k. subst (λ i. powered_by plan D i ≡ true) (eqb-true q p k) (h refl)
  returned_at false q h = at_closing status.Cancelled

  withdrawn_at : {A : Type 0} (U : State A) (q r : ℕ) → devices_of U ≡ D → At (withdrawn_place plan U q r)
  withdrawn_at U q r same =
      returned_at ((info_of U.requests r).received && returns_to plan U q) q
      (λ yes.
      let powered : is_powered plan U q ≡ true = both_right (declares plan callback.EvtIoCanceledOnQueue q && not (is_closed U.control (device_of_queue plan q))) (is_powered plan U q) (both_right (info_of U.requests r).received (returns_to plan U q) yes) in
      subst (λ E. powered_by plan E q ≡ true) same powered)

  cancelled_in : {A : Type 0} (U : State A) (q r : ℕ) → devices_of U ≡ D → Backed plan D U.requests → Backed plan D (cancel_in plan U q r).requests
  cancelled_in U q r same k =
      moves (requests.cancel U.requests r) r (withdrawn_place plan U q r) (withdrawn_at U q r same) (same_place U.requests r cancelled (λ e. refl) k)

  all_withdrawn : {A : Type 0} (q : ℕ) (rs : List ℕ) (S : State A) → devices_of S ≡ D → Backed plan D S.requests → Backed plan D (fold (withdraw plan q) S rs).requests
  all_withdrawn q [] S same k = k
  all_withdrawn q (r ∷ rs) S same k = all_withdrawn q rs (withdraw plan q S r) same (cancelled_in S q r same k)

  all_returning : {A : Type 0} (qs : List ℕ) (S : State A) → Backed plan D S.requests → Backed plan D (fold close_returning S qs).requests
  all_returning [] S k = k
  all_returning (q ∷ qs) S k = all_returning qs (close_returning S q) (all_close S.requests (is_returning_to q) refl k)

  all_closed : {A : Type 0} (qs : List ℕ) (S : State A) → Backed plan D S.requests → Backed plan D (fold close_queue S qs).requests
  all_closed [] S k = k
  all_closed (q ∷ qs) S k = all_closed qs (close_queue S q) (all_close S.requests (is_in q) refl k)

  -- ---- each deed

  as_before : (R U : Requests) → U ≡ R → Backed plan D R → Backed plan D U
  as_before R U e k = subst (Backed plan D) (sym e) k

  enters : {A : Type 0} (S : State A) (r q : ℕ) → Backed plan D S.requests → Backed plan D (requests.move_to (give_up S r).requests r (queued q))
  enters S r q k = moves (give_up S r).requests r (queued q) (at_queued (record { 0 = q })) (as_before S.requests (give_up S r).requests (given requests_of (λ S Q P. refl) S r) k)

  came : {A : Type 0} (S : State A) (device : ℕ) (info : RequestInfo) (p : Place) → Sound plan (Arrive (object_id device) info p) S → Backed plan D S.requests → Backed plan D (arrive_at S device info p).requests
  came S device info (place.Queued x) s k = new_one S.requests (next_id S.tree) (place.Queued x) info (at_queued x) k
  came S device info (place.Returning x) s k = absurd s.2
  came S device info (place.Closing t) s k = new_one S.requests (next_id S.tree) (place.Closing t) info (at_closing t) k
  came S device info place.Owned s k = new_one S.requests (next_id S.tree) place.Owned info at_owned k
  came S device info (place.Sent t) s k = new_one S.requests (next_id S.tree) (place.Sent t) info (at_sent t) k
  came S device info place.Done s k = new_one S.requests (next_id S.tree) place.Done info at_done k

  -- a deed, before which the power of devices is D
  pub backed_by : {A : Type 0} (d : Deed) (S : State A) → Sound plan d S → devices_of S ≡ D → Backed plan D S.requests → Backed plan D (do_deed plan d S).requests
  backed_by (MakeRequest class parent) S s same k = new_one S.requests (next_id S.tree) place.Owned (made_info (nearest_device S.tree parent.0)) at_owned k
  backed_by (Arrive device info p) S s same k = came S device.0 info p s k
  backed_by (AskDeletion o) S s same k = as_before S.requests (do_deed plan (AskDeletion o) S).requests (asks_all requests_of (λ S T D W U. refl) (subtree S.tree o.0) S) k
  backed_by (EndLife o) S s same k = forgets S.requests o.0 k
  backed_by (Present q r) S s same k = moves S.requests r.0 place.Owned at_owned k
  backed_by (Receive q r) S s same k = moves S.requests r.0 place.Owned at_owned k
  backed_by (Requeue r q) S s same k = enters S r.0 q.0 k
  backed_by (Forward r q) S s same k = enters S r.0 q.0 k
  backed_by (GiveBack r q) S s same k = cancelled_in (give_up S r.0) q.0 r.0 (given_devices S r.0 ∙ same) (as_before S.requests (give_up S r.0).requests (given requests_of (λ S Q P. refl) S r.0) k)
  backed_by (Withdraw q r) S s same k = cancelled_in S q.0 r.0 same k
  backed_by (MarkRequest r) S s same k = same_place S.requests r.0 marked (λ e. marked_place e e.info.cancelled) k
  backed_by (UnmarkRequest r) S s same k = same_place S.requests r.0 unmarked (λ e. unmarked_place e (is_marked e.info.mark)) k
  backed_by (CancelRequest r) S s same k = same_place S.requests r.0 cancelled (λ e. refl) k
  backed_by (TakeCancel r) S s same k = same_place S.requests r.0 (with_mark marks.Taken) (λ e. refl) k
  backed_by (SendRequest r t forget) S s same k =
      moves (give_up_if forget S r.0).requests r.0 (place.Sent (record { 0 = t.0 })) (at_sent (record { 0 = t.0 })) (as_before S.requests (give_up_if forget S r.0).requests (given_if requests_of (λ S Q P. refl) S forget r.0) k)
  backed_by (FinishSending r t) S s same k = moves S.requests r.0 (finished_at (is_forgotten S.targets r.0) t (place_of S.requests r.0)) (at_finished (is_forgotten S.targets r.0) t (place_of S.requests r.0) (k r.0)) k
  backed_by (ComeBack r) S s same k = moves S.requests r.0 place.Owned at_owned k
  backed_by (CompleteRequest r) S s same k =
      as_before (requests.complete S.requests r.0) (do_deed plan (CompleteRequest r) S).requests
      (asks_all requests_of (λ S T D W U. refl) (subtree (give_up S r.0).tree r.0) (record (give_up S r.0) { requests = requests.complete S.requests r.0 }))
      (moves S.requests r.0 place.Done at_done k)
  backed_by (PurgeQueue q) S s same k = all_withdrawn q.0 (waiting_in S.queues q.0) (record S { control = control.set_mode S.control q.0 mode.Purged }) same k
  backed_by (CloseReturning x) S s same k = all_returning (managed_queues plan x.0) S k
  backed_by (CloseDevice x) S s same k = all_closed (queues_of plan x.0) (record S { control = control.shut S.control x.0 }) k
  backed_by _ S s same k = k

-- ---- power grows

-- where no device's queues go down
pub backed_more : (plan : Plan) (R : Requests) (D E : List DevicePower) → ((d : ℕ) → (entry no_device_power D d).up ≡ true → (entry no_device_power E d).up ≡ true) → Backed plan D R → Backed plan E R
backed_more plan R D E more k x q h = by_managed (is_managed plan q) refl (k x q h)
  where
    by_managed : (b : Bool) → is_managed plan q ≡ b → powered_by plan D q ≡ true → powered_by plan E q ≡ true
    by_managed false e t = rw e refl
    by_managed true e t = let up : (entry no_device_power D (device_of_queue plan q)).up ≡ true = rw e at t in rw e (more (device_of_queue plan q) up)

-- ---- `queues_down`

was_closed : (q : ℕ) (e : Request) (here : Place → Bool) (b : Bool) → here e.place ≡ b → is_returning_to q (closed_at here e).place ≡ true → (b ≡ false) × (is_returning_to q e.place ≡ true)
was_closed q e here true h k = absurd (let t : is_returning_to q (place.Closing status.Cancelled) ≡ true = rw h at k in let z : ⊥ = cc in z)
was_closed q e here false h k = (refl, rw h at k)

-- what returns after a queue's returning requests are closed returned before, to another queue
still_returning : (R : Requests) (p q x : ℕ) → is_returning_to q (place_of (requests.close_returning R p) x) ≡ true → (is_returning_to p (place_of R x) ≡ false) × (is_returning_to q (place_of R x) ≡ true)
still_returning R p q x h =
    was_closed q (request_of R x) (is_returning_to p) (is_returning_to p (place_of R x)) refl
    (subst (λ (y : Request). is_returning_to q y.place ≡ true) (entry_map no_request R.all (closed_at (is_returning_to p)) x refl) h)

returned_before : {A : Type 0} (qs : List ℕ) (S : State A) (q x : ℕ) → is_returning_to q (place_of (fold close_returning S qs).requests x) ≡ true → is_returning_to q (place_of S.requests x) ≡ true
returned_before [] S q x h = h
returned_before (p ∷ qs) S q x h = (still_returning S.requests p q x (returned_before qs (close_returning S p) q x h)).1

none_returns : {A : Type 0} (qs : List ℕ) (S : State A) (q x : ℕ) → contains q qs ≡ true → is_returning_to q (place_of (fold close_returning S qs).requests x) ≡ true → ⊥
none_returns [] S q x there h = let z : ⊥ = cc in z
none_returns (p ∷ qs) S q x there h = by_first (p == q) refl there (λ t. none_returns qs (close_returning S p) q x t h)
  where
    by_first : (b : Bool) → (p == q) ≡ b → (b || contains q qs) ≡ true → (contains q qs ≡ true → ⊥) → ⊥
    by_first true e t rest =
        let k = still_returning S.requests p q x (returned_before qs (close_returning S p) q x h) in
        let other : is_returning_to q (place_of S.requests x) ≡ false = subst (λ i. is_returning_to i (place_of S.requests x) ≡ false) (eqb-true p q e) k.0 in
        let yes = k.1 in
        let z : ⊥ = cc in z
    by_first false e t rest = rest t

contains_kept : (keep : ℕ → Bool) (q : ℕ) (xs : List ℕ) → keep q ≡ true → contains q xs ≡ true → contains q (filter keep xs) ≡ true
contains_kept keep q [] k h = h
contains_kept keep q (x ∷ xs) k h = by_first (x == q) refl (keep x) refl h (contains_kept keep q xs k)
  where
    by_first : (b : Bool) → (x == q) ≡ b → (c : Bool) → keep x ≡ c → (b || contains q xs) ≡ true → (contains q xs ≡ true → contains q (filter keep xs) ≡ true)
        → contains q (if c then x ∷ filter keep xs else filter keep xs) ≡ true
    by_first true e true f t rest = first (x == q) (contains q (filter keep xs)) e
    by_first true e false f t rest = absurd (let g : keep x ≡ true = ap keep (eqb-true x q e) ∙ k in let z : ⊥ = cc in z)
    by_first false e true f t rest = second (x == q) (contains q (filter keep xs)) (rest t)
    by_first false e false f t rest = rest t

found_within : (plan : Plan) (q : ℕ) (found : Option Declared) → declared_of plan q ≡ found → unwrap_or (option_map (λ (i : QueueInfo). i.powered) (as_queue found)) false ≡ true → q < suc (length plan.declared)
found_within plan q None e h = absurd (let z : ⊥ = cc in z)
found_within plan zero (Some d) e h = absurd (let z : ⊥ = cc in z)
found_within plan (suc k) (Some d) e h = let i = slice_get_within plan.declared k d e in omega arith

queue_of_its_device : (d : ℕ) (i : Option QueueInfo) → unwrap_or (option_map (λ (x : QueueInfo). x.powered) i) false ≡ true → unwrap_or (option_map (λ (x : QueueInfo). x.device.0) i) 0 ≡ d → is_queue_of d i ≡ true
queue_of_its_device d None h e = absurd (let z : ⊥ = cc in z)
queue_of_its_device d (Some i) h e = equal i.device.0 d e

-- a power-managed queue is one of those of its device
managed_there : (plan : Plan) (q d : ℕ) → is_managed plan q ≡ true → device_of_queue plan q ≡ d → contains q (managed_queues plan d) ≡ true
managed_there plan q d h e =
    let within : q < suc (length plan.declared) = found_within plan q (declared_of plan q) refl h in
    contains_kept (is_managed plan) q (queues_of plan d) h
    (contained (λ id. is_queue_of d (queue_of plan id)) q 0 (suc (length plan.declared)) (queue_of_its_device d (queue_of plan q) h e) (omega arith) (omega arith))

-- after what returns to the power-managed queues of a device is closed, these may lose power
pub backed_down : {A : Type 0} (plan : Plan) (S : State A) (n : ℕ) (D E : List DevicePower) → ((d : ℕ) → d ≢ n → entry no_device_power E d ≡ entry no_device_power D d) → Backed plan D S.requests → Backed plan E (fold close_returning S (managed_queues plan n)).requests
backed_down plan S n D E others k x q h = by_managed (is_managed plan q) refl
  where
    by_managed : (b : Bool) → is_managed plan q ≡ b → powered_by plan E q ≡ true
    by_managed false e = rw e refl
    by_managed true e = elim (one_or_two (device_of_queue plan q) n) [
      | inl m ↦ absurd (none_returns (managed_queues plan n) S q x (managed_there plan q n e m) h)
      | inr m ↦
          let old : powered_by plan D q ≡ true = k x q (returned_before (managed_queues plan n) S q x h) in
          subst (λ (p : DevicePower). (not (is_managed plan q) || p.up) ≡ true) (sym (others (device_of_queue plan q) m)) old
    ]
