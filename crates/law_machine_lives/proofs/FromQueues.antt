-- A relation of a queue with the device and the form of a request: here, the queue suits them. It is so of the queue in
-- which a request waits, of the one to which it returns, and of the one from which it came. Deeds keep that, where
-- arriving and forwarded requests go to queues that suit them. A requeued request has to go to the queue from which it
-- came, and one that is given back to that queue or to one that suits it.
use Rattle.std.proofs.Common.{if◌then◌else◌, ◌≡◌, ℕ, ◌==◌, ◌≤◌, nat_lt, Bool, true, false, not, ◌&&◌, ◌⊎◌, List, [], ◌∷◌, inl, inr, Option, Some, None, is_some, map, fold, count_by, unwrap_or, refl, sym, ap, subst, ◌∙◌, arith}
use Rattle.std.specs.Prelude.{⊤, option_map}
use Rattle.std.proofs.lemmas.Bool.{eqb-true}
use Rattle.wdf_base.specs.declared.ids.ObjectId.{ObjectId}
use Rattle.wdf_base.specs.declared.plan.Plan.{Plan}
use Rattle.wdf_base.specs.declared.value.Status.{Status}
use Rattle.wdf_base.specs.declared.value.Status.TheVariants as status
use Rattle.wdf_base.specs.declared.object.Kind.TheVariants as kind
use Rattle.wdf_base.specs.declared.object.Mark.TheVariants as marks
use Rattle.wdf_base.specs.declared.object.Place.{Place}
use Rattle.wdf_base.specs.declared.object.Place.TheVariants as place
use Rattle.wdf_base.specs.declared.call.Callback.TheVariants as callback
use Rattle.wdf_base.specs.declared.object.RequestForm.{RequestForm}
use Rattle.wdf_base.specs.declared.object.RequestInfo.{RequestInfo}
use Rattle.wdf_base.specs.Same.{same_kind}
use Rattle.wdf_model.specs.declared.enums.Mode.TheVariants as mode
use Rattle.wdf_model.specs.declared.entries.Request.{Request}
use Rattle.wdf_model.specs.Tables.{flag, same_id}
use Rattle.wdf_model.specs.Plans.{declares, device_of_queue, managed_queues, queues_of}
use Rattle.wdf_model.specs.parts.Tree.{kind_of, life_of, nearest_device, next_id, subtree}
use Rattle.wdf_model.specs.parts.Requests.{Requests, cancelled, closed_at, forgotten, has_arrived, info_of, is_in, is_over, made_info, marked, moved, no_request, origin_from, place_of, request_of, unmarked, with_mark, with_request}
use Rattle.wdf_model.specs.parts.Requests as requests
use Rattle.wdf_model.specs.parts.Queues.{front, waiting_in}
use Rattle.wdf_model.specs.parts.Control as control
use Rattle.wdf_model.specs.parts.Control.{is_closed}
use Rattle.wdf_model.specs.parts.Targets.{is_forgotten, is_undone, routine_due}
use Rattle.wdf_model.specs.State.{State, is_powered, opening, returns_to, withdrawn_place}
use Rattle.wdf_model.specs.declared.deed.Deed.{Deed}
use Rattle.wdf_model.specs.declared.deed.Deed.TheVariants.{MakeRequest, Arrive, AskDeletion, EndLife, Present, Receive, Requeue, Forward, GiveBack, Withdraw, MarkRequest, UnmarkRequest, CancelRequest, TakeCancel, SendRequest, FinishSending, ComeBack, CompleteRequest, PurgeQueue, CloseReturning, CloseDevice}
use Rattle.wdf_model.specs.rules.Deeds.{arrive_at, cancel_in, close_queue, close_returning, do_deed, finished_at, give_up, give_up_if, queued, withdraw}
use Rattle.wdf_model.specs.rules.Calls.{origin_or_none}
use Rattle.law_machine_base.specs.Fits.{fits, is_arrival_place, is_given}
use Rattle.wdf_model.proofs.Tests.{both_left, both_right}
use Rattle.wdf_model.proofs.Maps.{entry_map, entry_put_other, entry_put_same, entry_set_other, set_read}
use Rattle.wdf_model.proofs.Counts.{at_head, equal, front_leaves, one_or_two}
use Rattle.law_machine_base.proofs.KeptByDeeds.{deed_keeps}
use Rattle.law_machine_counts.proofs.HeldMoves.{Placed}
use Rattle.law_machine_lives.proofs.Stays.{asks_all, given, given_if}
use Rattle.wdf_base.specs.Meaning.{Meaning}
use Rattle.wdf_base.specs.Lives.{is_live}
use Rattle.wdf_base.specs.Places.{is_marked, is_owned, is_queued_in, is_returning_to, is_sent}
use Rattle.wdf_model.specs.rules.Ready.{ready, state_after}
use Rattle.wdf_model.proofs.Runs.{run_opens}
use Rattle.law_machine_base.proofs.LawsOverRuns.{history_now}
use Rattle.law_machine_lives.proofs.Readers.{requests_of}
use Rattle.law_machine_counts.proofs.HeldOverRuns.{placed}
use Rattle.law_machine_counts.proofs.Arrived.{arrived_requests}

-- where an arrived request is only after it came from a queue
abbrev came_from : Place → Bool
came_from place.Owned = true
came_from (place.Sent t) = true
came_from _ = false

-- a request that isn't closing or done
abbrev is_out : Place → Bool
is_out (place.Closing s) = false
is_out place.Done = false
is_out _ = true

-- moves by which an arrived request keeps, or gets, the queue that it came from
abbrev becomes : Place → Place → Bool
becomes place.Owned old = is_out old
becomes (place.Sent t) old = came_from old
becomes _ old = true

abbrev may_move : Place → Place → Bool
may_move old new = becomes new old

origin_there : (old new : Place) (o : Option ObjectId) → may_move old new ≡ true → (came_from old ≡ true → is_some o ≡ true) → came_from new ≡ true → is_some (origin_from old new o) ≡ true
origin_there place.Owned place.Owned o m h k = h refl
origin_there (place.Sent t) place.Owned o m h k = h refl
origin_there (place.Queued q) place.Owned o m h k = refl
origin_there (place.Returning q) place.Owned o m h k = refl
origin_there (place.Closing s) place.Owned o m h k = absurd (let z : ⊥ = cc in z)
origin_there place.Done place.Owned o m h k = absurd (let z : ⊥ = cc in z)
origin_there place.Owned (place.Sent t) o m h k = h refl
origin_there (place.Sent u) (place.Sent t) o m h k = h refl
origin_there _ (place.Sent t) o m h k = absurd (let z : ⊥ = cc in z)
origin_there _ _ o m h k = absurd (let z : ⊥ = cc in z)

-- ---- where a request is

from_queued : (q : ℕ) (p : Place) → is_queued_in q p ≡ true → may_move p place.Owned ≡ true
from_queued q (place.Closing s) h = absurd (let z : ⊥ = cc in z)
from_queued q place.Done h = absurd (let z : ⊥ = cc in z)
from_queued q _ h = refl

from_returning : (q : ℕ) (p : Place) → is_returning_to q p ≡ true → may_move p place.Owned ≡ true
from_returning q (place.Closing s) h = absurd (let z : ⊥ = cc in z)
from_returning q place.Done h = absurd (let z : ⊥ = cc in z)
from_returning q _ h = refl

from_sent : (p : Place) → is_sent p ≡ true → may_move p place.Owned ≡ true
from_sent (place.Closing s) h = absurd (let z : ⊥ = cc in z)
from_sent place.Done h = absurd (let z : ⊥ = cc in z)
from_sent _ h = refl

owned_sends : (t : ObjectId) (p : Place) → is_owned p ≡ true → may_move p (place.Sent t) ≡ true
owned_sends t place.Owned h = refl
owned_sends t (place.Sent u) h = refl
owned_sends t _ h = absurd (let z : ⊥ = cc in z)

-- what a target is done with stays sent, or closes
finished : (b : Bool) (st : Status) (p : Place) → is_sent p ≡ true → may_move p (finished_at b st p) ≡ true
finished true st p h = refl
finished false st (place.Sent t) h = refl
finished false st (place.Queued x) h = absurd (let z : ⊥ = cc in z)
finished false st (place.Returning x) h = absurd (let z : ⊥ = cc in z)
finished false st (place.Closing s) h = absurd (let z : ⊥ = cc in z)
finished false st place.Owned h = absurd (let z : ⊥ = cc in z)
finished false st place.Done h = absurd (let z : ⊥ = cc in z)

pub waits_there : (n : ℕ) (b : Bool) → n ≡ flag b → 1 ≤ n → b ≡ true
waits_there n true e h = refl
waits_there n false e h = absurd (omega arith)

queued_there : {A : Type 0} (S : State A) (q r : ℕ) → Placed S → 1 ≤ count_by (λ x. x == r) (waiting_in S.queues q) → is_queued_in q (place_of S.requests r) ≡ true
queued_there S q r k more = waits_there (count_by (λ x. x == r) (waiting_in S.queues q)) (is_queued_in q (place_of S.requests r)) (k.queued q r) more

front_there : {A : Type 0} (S : State A) (q r : ℕ) → Placed S → same_id (front S.queues q) r ≡ true → is_queued_in q (place_of S.requests r) ≡ true
front_there S q r k h =
    let e = front_leaves r r (waiting_in S.queues q) h in
    let one : flag (r == r) ≡ 1 = ap flag (equal r r refl) in
    queued_there S q r k (omega arith)

owned_came : (p : Place) → is_owned p ≡ true → came_from p ≡ true
owned_came place.Owned h = refl
owned_came (place.Sent t) h = refl
owned_came _ h = absurd (let z : ⊥ = cc in z)

-- ---- where it goes

withdrawn_moves : (b : Bool) (q : ℕ) (p : Place) → may_move p (if b then place.Returning (record { 0 = q }) else place.Closing status.Cancelled) ≡ true
withdrawn_moves true q p = refl
withdrawn_moves false q p = refl

opening_placed : {A : Type 0} (plan : Plan) (m : Meaning A) → Placed (opening plan m)
unfolding state_after
opening_placed plan m = placed (opening plan m) (history_now plan m [] (run_opens (ready plan m))).kept

-- ---- queues that suit requests

module _ (plan : Plan) (Suits : ℕ → ℕ → RequestForm → Type 0) where
  -- a queue to which a request returns has EvtIoCanceledOnQueue
  abbrev pub PlaceFits : Place → ℕ → RequestForm → Type 0
  PlaceFits (place.Queued q) d f = Suits q.0 d f
  PlaceFits (place.Returning q) d f = Suits q.0 d f × (declares plan callback.EvtIoCanceledOnQueue q.0 ≡ true)
  PlaceFits _ d f = ⊤

  abbrev pub OriginFits : Option ObjectId → ℕ → RequestForm → Type 0
  OriginFits None d f = ⊤
  OriginFits (Some q) d f = Suits q.0 d f

  pub record Suited (e : Request) : Type 0 where
    pub at : PlaceFits e.place e.info.device.0 e.info.form
    pub from : OriginFits e.info.origin e.info.device.0 e.info.form
    pub held : has_arrived e ≡ true → came_from e.place ≡ true → is_some e.info.origin ≡ true

  abbrev pub AllSuited : Requests → Type 0
  AllSuited R = (r : ℕ) → Suited (request_of R r)

  -- the queue suits the request as it is among these
  abbrev pub SuitsIn : Requests → ℕ → ℕ → Type 0
  SuitsIn R q r = Suits q (info_of R r).device.0 (info_of R r).form

  abbrev pub ArrivesAt : Place → ℕ → RequestForm → Type 0
  ArrivesAt (place.Queued q) d f = Suits q.0 d f
  ArrivesAt _ d f = ⊤

  -- what has to be so where a deed is done
  abbrev pub GoesWell : {A : Type 0} → Deed → State A → Type 0
  GoesWell (Arrive device info p) S = (info.origin ≡ None) × ArrivesAt p info.device.0 info.form
  GoesWell (Requeue r q) S = origin_or_none S r.0 ≡ q.0
  GoesWell (Forward r q) S = SuitsIn S.requests q.0 r.0
  GoesWell (GiveBack r q) S = (origin_or_none S r.0 ≡ q.0) ⊎ SuitsIn S.requests q.0 r.0
  GoesWell _ S = ⊤

  -- ---- a request moves

  origin_fits : (old new : Place) (o : Option ObjectId) (d : ℕ) (f : RequestForm) → PlaceFits old d f → OriginFits o d f → OriginFits (origin_from old new o) d f
  origin_fits (place.Queued q) place.Owned o d f p k = p
  origin_fits (place.Returning q) place.Owned o d f p k = p.0
  origin_fits _ _ o d f p k = k

  moves : (e : Request) (p : Place) → Suited e → PlaceFits p e.info.device.0 e.info.form → may_move e.place p ≡ true → Suited (moved p e)
  moves e p k fit may_come = record {
    at = fit;
    from = origin_fits e.place p e.info.origin e.info.device.0 e.info.form k.at k.from;
    held = λ h c. origin_there e.place p e.info.origin may_come (k.held h) c;
  }

  one_changes : (R : Requests) (r : ℕ) (f : Request → Request) → Suited (f (request_of R r)) → AllSuited R → AllSuited (with_request R r f)
  one_changes R r f new k x = elim (one_or_two x r) [
    | inl e ↦ rw e (subst Suited (sym (entry_put_same no_request R.all r (f (request_of R r)))) new)
    | inr n ↦ subst Suited (sym (entry_put_other no_request R.all r x (f (request_of R r)) n)) (k x)
  ]

  moves_one : (R : Requests) (r : ℕ) (p : Place) → PlaceFits p (info_of R r).device.0 (info_of R r).form → may_move (place_of R r) p ≡ true → AllSuited R → AllSuited (requests.move_to R r p)
  moves_one R r p fit may_come k = one_changes R r (moved p) (moves (request_of R r) p (k r) fit may_come) k

  cancels : (R : Requests) (r : ℕ) → AllSuited R → AllSuited (requests.cancel R r)
  cancels R r k = let e = k r in one_changes R r cancelled (record { at = e.at; from = e.from; held = e.held }) k

  new_one : (R : Requests) (r : ℕ) (p : Place) (info : RequestInfo) → Suited (record { place = p; info = info }) → AllSuited R → AllSuited (requests.arrive R r p info)
  new_one R r p info new k = one_changes R r (λ e. record { place = p; info = info }) new k

  pub blank_suited : Suited no_request
  blank_suited = record { at = tt; from = tt; held = λ h c. absurd (let z : ⊥ = cc in z) }

  closed_by : (e : Request) (b : Bool) → Suited e → Suited (if b then moved (place.Closing status.Cancelled) e else e)
  closed_by e true k = moves e (place.Closing status.Cancelled) k tt refl
  closed_by e false k = k

  all_close : (R : Requests) (here : Place → Bool) → here place.Done ≡ false → AllSuited R → AllSuited (record R { all = map (closed_at here) R.all })
  all_close R here off k x =
      let blank : closed_at here no_request ≡ no_request = rw off refl in
      subst Suited (sym (entry_map no_request R.all (closed_at here) x blank)) (closed_by (request_of R x) (here (request_of R x).place) (k x))

  forgotten_by : (e : Request) (b : Bool) → Suited e → Suited (if b then no_request else e)
  forgotten_by e true k = blank_suited
  forgotten_by e false k = k

  forgets : (R : Requests) (r : ℕ) → AllSuited R → AllSuited (requests.forget R r)
  forgets R r k x = elim (one_or_two x r) [
    | inl e ↦ rw e (subst Suited (sym (set_read no_request forgotten R.all r refl)) (forgotten_by (request_of R r) (is_over (request_of R r)) (k r)))
    | inr n ↦ subst Suited (sym (entry_set_other no_request R.all r x (forgotten (request_of R r)) n)) (k x)
  ]

  -- ---- what a place says of its queue

  queue_suits : (q : ℕ) (p : Place) (d : ℕ) (f : RequestForm) → is_queued_in q p ≡ true → PlaceFits p d f → Suits q d f
  queue_suits q (place.Queued x) d f h k = subst (λ y. Suits y d f) (eqb-true x.0 q h) k
  queue_suits q _ d f h k = absurd (let z : ⊥ = cc in z)

  returning_by : (q : ℕ) (p : Place) (d : ℕ) (f : RequestForm) → is_returning_to q p ≡ true → PlaceFits p d f → Suits q d f × (declares plan callback.EvtIoCanceledOnQueue q ≡ true)
  returning_by q (place.Returning x) d f h k = subst (λ y. Suits y d f × (declares plan callback.EvtIoCanceledOnQueue y ≡ true)) (eqb-true x.0 q h) k
  returning_by q _ d f h k = absurd (let z : ⊥ = cc in z)

  -- a queue suits what waits in it, and what returns to it
  pub queued_suits : (R : Requests) (q r : ℕ) → AllSuited R → is_queued_in q (place_of R r) ≡ true → SuitsIn R q r
  queued_suits R q r k h = queue_suits q (place_of R r) (info_of R r).device.0 (info_of R r).form h (k r).at

  pub returning_suits : (R : Requests) (q r : ℕ) → AllSuited R → is_returning_to q (place_of R r) ≡ true → SuitsIn R q r × (declares plan callback.EvtIoCanceledOnQueue q ≡ true)
  returning_suits R q r k h = returning_by q (place_of R r) (info_of R r).device.0 (info_of R r).form h (k r).at

  pub waiting_suits : {A : Type 0} (S : State A) (q r : ℕ) → Placed S → AllSuited S.requests → 1 ≤ count_by (λ x. x == r) (waiting_in S.queues q) → SuitsIn S.requests q r
  waiting_suits S q r placed k more = queued_suits S.requests q r k (queued_there S q r placed more)

  -- ---- a request is cancelled in a queue

  withdrawn_by : (b : Bool) (q d : ℕ) (f : RequestForm) → Suits q d f → (b ≡ true → declares plan callback.EvtIoCanceledOnQueue q ≡ true) → PlaceFits (if b then place.Returning (record { 0 = q }) else place.Closing status.Cancelled) d f
  withdrawn_by true q d f h has = (h, has refl)
  withdrawn_by false q d f h has = tt

  cancelled_suits : (R : Requests) (q r x : ℕ) → SuitsIn R q x → SuitsIn (requests.cancel R r) q x
  cancelled_suits R q r x h = elim (one_or_two x r) [
    | inl e ↦ rw e (subst (λ (n : Request). Suits q n.info.device.0 n.info.form) (sym (entry_put_same no_request R.all r (cancelled (request_of R r)))) (rw e at h))
    | inr n ↦ subst (λ (n : Request). Suits q n.info.device.0 n.info.form) (sym (entry_put_other no_request R.all r x (cancelled (request_of R r)) n)) h
  ]

  moved_suits : (R : Requests) (q r : ℕ) (p : Place) (x : ℕ) → SuitsIn R q x → SuitsIn (requests.move_to R r p) q x
  moved_suits R q r p x h = elim (one_or_two x r) [
    | inl e ↦ rw e (subst (λ (n : Request). Suits q n.info.device.0 n.info.form) (sym (entry_put_same no_request R.all r (moved p (request_of R r)))) (rw e at h))
    | inr n ↦ subst (λ (n : Request). Suits q n.info.device.0 n.info.form) (sym (entry_put_other no_request R.all r x (moved p (request_of R r)) n)) h
  ]

  cancelled_in : {A : Type 0} (U : State A) (q r : ℕ) → SuitsIn U.requests q r → AllSuited U.requests → AllSuited (cancel_in plan U q r).requests
  cancelled_in U q r h k =
      let b : Bool = (info_of U.requests r).received && returns_to plan U q in
      let R : Requests = requests.cancel U.requests r in
      moves_one R r (withdrawn_place plan U q r)
      (withdrawn_by b q (info_of R r).device.0 (info_of R r).form (cancelled_suits U.requests q r r h)
      (λ yes. both_left (declares plan callback.EvtIoCanceledOnQueue q) (not (is_closed U.control (device_of_queue plan q)))
      (both_left (declares plan callback.EvtIoCanceledOnQueue q && not (is_closed U.control (device_of_queue plan q))) (is_powered plan U q) (both_right (info_of U.requests r).received (returns_to plan U q) yes))))
      (withdrawn_moves b q (place_of R r)) (cancels U.requests r k)

  all_withdrawn : {A : Type 0} (q : ℕ) (rs : List ℕ) (S : State A) → ((r : ℕ) → 1 ≤ count_by (λ x. x == r) rs → SuitsIn S.requests q r) → AllSuited S.requests → AllSuited (fold (withdraw plan q) S rs).requests
  all_withdrawn q [] S h k = k
  all_withdrawn q (r ∷ rs) S h k =
      let p : Place = withdrawn_place plan S q r in
      all_withdrawn q rs (withdraw plan q S r)
      (λ x more. moved_suits (requests.cancel S.requests r) q r p x (cancelled_suits S.requests q r x (h x (let a = at_head x r rs in omega arith))))
      (cancelled_in S q r (h r (let a = at_head r r rs in let one : flag (r == r) ≡ 1 = ap flag (equal r r refl) in omega arith)) k)

  all_returning : {A : Type 0} (qs : List ℕ) (S : State A) → AllSuited S.requests → AllSuited (fold close_returning S qs).requests
  all_returning [] S k = k
  all_returning (q ∷ qs) S k = all_returning qs (close_returning S q) (all_close S.requests (is_returning_to q) refl k)

  all_closed : {A : Type 0} (qs : List ℕ) (S : State A) → AllSuited S.requests → AllSuited (fold close_queue S qs).requests
  all_closed [] S k = k
  all_closed (q ∷ qs) S k = all_closed qs (close_queue S q) (all_close S.requests (is_in q) refl k)

  -- ---- a request goes back, or on

  origin_suits : (o : Option ObjectId) (q d : ℕ) (f : RequestForm) → is_some o ≡ true → unwrap_or (option_map (λ (x : ObjectId). x.0) o) 0 ≡ q → OriginFits o d f → Suits q d f
  origin_suits None q d f h e k = absurd (let z : ⊥ = cc in z)
  origin_suits (Some x) q d f h e k = subst (λ y. Suits y d f) e k

  back_to : {A : Type 0} (S : State A) (r q : ℕ) → Placed S → AllSuited S.requests → is_given S r ≡ true → origin_or_none S r ≡ q → SuitsIn S.requests q r
  back_to S r q k d given_ e =
      let owned : is_owned (place_of S.requests r) ≡ true = both_left (is_owned (place_of S.requests r)) (same_kind (kind_of S.tree r) kind.Request) given_ in
      let arrived_requests : has_arrived (request_of S.requests r) ≡ true = k.kinds r (both_right (is_owned (place_of S.requests r)) (same_kind (kind_of S.tree r) kind.Request) given_) in
      origin_suits (info_of S.requests r).origin q (info_of S.requests r).device.0 (info_of S.requests r).form ((d r).held arrived_requests (owned_came (place_of S.requests r) owned)) e (d r).from

  same_requests : (R U : Requests) → U ≡ R → AllSuited R → AllSuited U
  same_requests R U e k = subst AllSuited (sym e) k

  enters : {A : Type 0} (S : State A) (r q : ℕ) → SuitsIn S.requests q r → AllSuited S.requests → AllSuited (requests.move_to (give_up S r).requests r (queued q))
  enters S r q h k =
      let e : (give_up S r).requests ≡ S.requests = given requests_of (λ S Q P. refl) S r in
      moves_one (give_up S r).requests r (queued q) (subst (λ (V : Requests). SuitsIn V q r) (sym e) h) refl (same_requests S.requests (give_up S r).requests e k)

  goes_back : {A : Type 0} (S : State A) (r q : ℕ) → SuitsIn S.requests q r → AllSuited S.requests → AllSuited (cancel_in plan (give_up S r) q r).requests
  goes_back S r q h k =
      let e : (give_up S r).requests ≡ S.requests = given requests_of (λ S Q P. refl) S r in
      cancelled_in (give_up S r) q r (subst (λ (V : Requests). SuitsIn V q r) (sym e) h) (same_requests S.requests (give_up S r).requests e k)

  sends : {A : Type 0} (S : State A) (r t : ℕ) (forget : Bool) → is_owned (place_of S.requests r) ≡ true → AllSuited S.requests → AllSuited (requests.move_to (give_up_if forget S r).requests r (place.Sent (record { 0 = t })))
  sends S r t forget owned k =
      let e : (give_up_if forget S r).requests ≡ S.requests = given_if requests_of (λ S Q P. refl) S forget r in
      moves_one (give_up_if forget S r).requests r (place.Sent (record { 0 = t })) tt
      (ap (λ (V : Requests). may_move (place_of V r) (place.Sent (record { 0 = t }))) e ∙ owned_sends (record { 0 = t }) (place_of S.requests r) owned)
      (same_requests S.requests (give_up_if forget S r).requests e k)

  fits_finished : (b : Bool) (st : Status) (p : Place) (d : ℕ) (f : RequestForm) → is_sent p ≡ true → PlaceFits (finished_at b st p) d f
  fits_finished true st p d f h = tt
  fits_finished false st (place.Sent t) d f h = tt
  fits_finished false st (place.Queued x) d f h = absurd (let z : ⊥ = cc in z)
  fits_finished false st (place.Returning x) d f h = absurd (let z : ⊥ = cc in z)
  fits_finished false st (place.Closing s) d f h = tt
  fits_finished false st place.Owned d f h = tt
  fits_finished false st place.Done d f h = tt

  finishes : {A : Type 0} (S : State A) (r : ℕ) (st : Status) → is_sent (place_of S.requests r) ≡ true → AllSuited S.requests → AllSuited (requests.move_to S.requests r (finished_at (is_forgotten S.targets r) st (place_of S.requests r)))
  finishes S r st sent k =
      let p : Place = place_of S.requests r in
      let forgets_it : Bool = is_forgotten S.targets r in
      moves_one S.requests r (finished_at forgets_it st p) (fits_finished forgets_it st p (info_of S.requests r).device.0 (info_of S.requests r).form sent) (finished forgets_it st p sent) k

  arrives_well : (p : Place) (info : RequestInfo) → info.origin ≡ None → ArrivesAt p info.device.0 info.form → is_arrival_place p ≡ true → Suited (record { place = p; info = info })
  arrives_well (place.Queued q) info o w a = record { at = w; from = subst (λ x. OriginFits x info.device.0 info.form) (sym o) tt; held = λ h c. absurd (let z : ⊥ = cc in z) }
  arrives_well (place.Closing s) info o w a = record { at = tt; from = subst (λ x. OriginFits x info.device.0 info.form) (sym o) tt; held = λ h c. absurd (let z : ⊥ = cc in z) }
  arrives_well _ info o w a = absurd (let z : ⊥ = cc in z)

  marked_by : (q : Request) (b : Bool) → Suited q → Suited (if b then q else with_mark marks.Marked q)
  marked_by q true k = k
  marked_by q false k = record { at = k.at; from = k.from; held = k.held }

  unmarked_by : (q : Request) (b : Bool) → Suited q → Suited (if b then with_mark marks.Unmarked q else q)
  unmarked_by q true k = record { at = k.at; from = k.from; held = k.held }
  unmarked_by q false k = k

  -- ---- each deed

  deed_suits : {A : Type 0} (d : Deed) (S : State A) → fits plan d S ≡ true → GoesWell d S → Placed S → AllSuited S.requests → AllSuited (do_deed plan d S).requests
  deed_suits (MakeRequest class parent) S f s p k =
      new_one S.requests (next_id S.tree) place.Owned (made_info (nearest_device S.tree parent.0)) (record { at = tt; from = tt; held = λ h c. absurd (let z : ⊥ = cc in z) }) k
  deed_suits (Arrive device info at) S f s p k =
      same_requests (requests.arrive S.requests (next_id S.tree) at info) (arrive_at S device.0 info at).requests (arrived_requests S device.0 info at)
      (new_one S.requests (next_id S.tree) at info (arrives_well at info s.0 s.1 (both_right (is_live (life_of S.tree device.0) && nat_lt 0 info.arrival) (is_arrival_place at) f)) k)
  deed_suits (AskDeletion o) S f s p k = same_requests _ _ (asks_all requests_of (λ S T D W U. refl) (subtree S.tree o.0) S) k
  deed_suits (EndLife o) S f s p k = forgets S.requests o.0 k
  deed_suits (Present q r) S f s p k = moves_one S.requests r.0 place.Owned tt (from_queued q.0 (place_of S.requests r.0) (front_there S q.0 r.0 p f)) k
  deed_suits (Receive q r) S f s p k = moves_one S.requests r.0 place.Owned tt (from_returning q.0 (place_of S.requests r.0) f) k
  deed_suits (Requeue r q) S f s p k = enters S r.0 q.0 (back_to S r.0 q.0 p k f s) k
  deed_suits (Forward r q) S f s p k = enters S r.0 q.0 s k
  deed_suits (GiveBack r q) S f (inl s) p k = goes_back S r.0 q.0 (back_to S r.0 q.0 p k f s) k
  deed_suits (GiveBack r q) S f (inr s) p k = goes_back S r.0 q.0 s k
  deed_suits (Withdraw q r) S f s p k = cancelled_in S q.0 r.0 (queued_suits S.requests q.0 r.0 k f) k
  deed_suits (MarkRequest r) S f s p k = one_changes S.requests r.0 marked (marked_by (request_of S.requests r.0) (request_of S.requests r.0).info.cancelled (k r.0)) k
  deed_suits (UnmarkRequest r) S f s p k = one_changes S.requests r.0 unmarked (unmarked_by (request_of S.requests r.0) (is_marked (request_of S.requests r.0).info.mark) (k r.0)) k
  deed_suits (CancelRequest r) S f s p k = cancels S.requests r.0 k
  deed_suits (TakeCancel r) S f s p k = let e = k r.0 in one_changes S.requests r.0 (with_mark marks.Taken) (record { at = e.at; from = e.from; held = e.held }) k
  deed_suits (SendRequest r t forget) S f s p k =
      let owned : is_owned (place_of S.requests r.0) ≡ true = search both_left in
      sends S r.0 t.0 forget owned k
  deed_suits (FinishSending r st) S f s p k = finishes S r.0 st (both_left (is_sent (place_of S.requests r.0)) (is_undone S.targets r.0) f) k
  deed_suits (ComeBack r) S f s p k =
      let sent : is_sent (place_of S.requests r.0) ≡ true = both_left (is_sent (place_of S.requests r.0)) (is_some (routine_due S.targets r.0)) f in
      moves_one S.requests r.0 place.Owned tt (from_sent (place_of S.requests r.0) sent) k
  deed_suits (CompleteRequest r) S f s p k =
      same_requests (requests.complete S.requests r.0) (do_deed plan (CompleteRequest r) S).requests
      (asks_all requests_of (λ S T D W U. refl) (subtree (give_up S r.0).tree r.0) (record (give_up S r.0) { requests = requests.complete S.requests r.0 }))
      (moves_one S.requests r.0 place.Done tt refl k)
  deed_suits (PurgeQueue q) S f s p k =
      all_withdrawn q.0 (waiting_in S.queues q.0) (record S { control = control.set_mode S.control q.0 mode.Purged }) (λ r more. waiting_suits S q.0 r p k more) k
  deed_suits (CloseReturning x) S f s p k = all_returning (managed_queues plan x.0) S k
  deed_suits (CloseDevice x) S f s p k = all_closed (queues_of plan x.0) (record S { control = control.shut S.control x.0 }) k
  deed_suits _ S f s p k = k

  -- ---- the opening, and a deed that fits and goes well

  pub suited_first : {A : Type 0} (m : Meaning A) → Placed (opening plan m) × AllSuited (opening plan m).requests
  suited_first m = (opening_placed plan m, λ r. blank_suited)

  pub suited_by : {A : Type 0} (d : Deed) (S : State A) → fits plan d S ≡ true → GoesWell d S → Placed S × AllSuited S.requests → Placed (do_deed plan d S) × AllSuited (do_deed plan d S).requests
  suited_by d S f s k = (deed_keeps plan d S f (λ _. refl) k.0, deed_suits d S f s k.0 k.1)
