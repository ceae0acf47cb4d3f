-- A request that arrived at a device and isn't done is of a live device: each deed keeps this that leaves devices alone.
use Rattle.std.proofs.Common.{if◌then◌else◌, ◌≡◌, ℕ, ◌==◌, ◌≤◌, Bool, true, false, not, ◌&&◌, List, [], ◌∷◌, inl, inr, is_some, count_by, fold, map, refl, sym, ap, subst, ◌∙◌, arith}
use Rattle.std.specs.Prelude.{⊤}
use Rattle.wdf_base.specs.declared.plan.Plan.{Plan}
use Rattle.wdf_base.specs.declared.value.Status.TheVariants as status
use Rattle.wdf_base.specs.declared.object.Kind.TheVariants as kind
use Rattle.wdf_base.specs.declared.object.Mark.TheVariants as marks
use Rattle.wdf_base.specs.declared.object.Place.{Place}
use Rattle.wdf_base.specs.declared.object.Place.TheVariants as place
use Rattle.wdf_base.specs.declared.object.RequestInfo.{RequestInfo}
use Rattle.wdf_base.specs.Same.{same_kind}
use Rattle.wdf_base.specs.Places.{is_done, is_marked, is_owned, is_queued_in, is_returning_to, is_sent}
use Rattle.wdf_model.specs.declared.enums.Mode.TheVariants as mode
use Rattle.wdf_model.specs.declared.entries.Request.{Request}
use Rattle.wdf_model.specs.Tables.{flag, same_id}
use Rattle.wdf_model.specs.Plans.{managed_queues, queues_of}
use Rattle.wdf_model.specs.parts.Tree.{kind_of, nearest_device, next_id, subtree}
use Rattle.wdf_model.specs.parts.Queues.{front, waiting_in}
use Rattle.wdf_model.specs.parts.Control as control
use Rattle.wdf_model.specs.parts.Requests.{Requests, cancelled, closed_at, forgotten, has_arrived, is_in, is_over, made_info, marked, moved, no_request, place_of, request_of, unmarked, with_mark, with_request}
use Rattle.wdf_model.specs.parts.Requests as requests
use Rattle.wdf_model.specs.parts.Targets.{is_forgotten, is_undone, routine_due}
use Rattle.wdf_model.specs.State.{State, withdrawn_place}
use Rattle.wdf_model.specs.Ids.{object_id}
use Rattle.wdf_model.specs.declared.deed.Deed.{Deed}
use Rattle.wdf_model.specs.declared.deed.Deed.TheVariants.{Arrive, AskDeletion, CancelRequest, CloseDevice, CloseReturning, ComeBack, CompleteRequest, EndLife, FinishSending, Forward, GiveBack, MakeRequest, MarkRequest, Present, PurgeQueue, Receive, Requeue, SendRequest, TakeCancel, UnmarkRequest, Withdraw}
use Rattle.wdf_model.specs.rules.Deeds.{arrive_at, cancel_in, close_queue, close_returning, do_deed, finished_at, give_up, give_up_if, queued, withdraw}
use Rattle.law_machine_base.specs.Fits.{fits, is_given}
use Rattle.wdf_model.proofs.Tests.{both_left, both_right}
use Rattle.wdf_model.proofs.Maps.{entry_map, entry_put_other, entry_put_same, entry_set_other, set_read}
use Rattle.wdf_model.proofs.Counts.{at_head, equal, front_leaves, one_or_two}
use Rattle.law_machine_counts.proofs.HeldMoves.{Placed}
use Rattle.wdf_model.specs.rules.Groups.{declared_end}
use Rattle.law_machine_lives.proofs.Sound.{Sound}
use Rattle.law_machine_lives.proofs.Stays.{asks_all, given, given_if}
use Rattle.law_machine_base.proofs.KeptByDeeds.{owned_undone}
use Rattle.law_machine_lives.proofs.Readers.{requests_of}
use Rattle.law_machine_lives.proofs.Places.{sent_undone}
use Rattle.law_machine_lives.proofs.FromQueues.{waits_there}
use Rattle.law_machine_counts.proofs.Arrived.{arrived_requests}
use Rattle.law_machine_counts.proofs.Undone.{queued_undone, returning_undone}

-- ---- the property

-- a request that arrived and isn't done
abbrev pub is_undone_request : Request → Bool
is_undone_request e = has_arrived e && not (is_done e.place)

-- a request that isn't done is no declared object, and where it arrived, its device passes
abbrev pub IsOpened : Plan → (ℕ → Bool) → ℕ → Request → Type 0
IsOpened plan L r e = (is_done e.place ≡ false → declared_end plan ≤ r) × (is_undone_request e ≡ true → L e.info.device.0 ≡ true)

abbrev pub Opened : Plan → (ℕ → Bool) → Requests → Type 0
Opened plan L R = (r : ℕ) → IsOpened plan L r (request_of R r)

-- ---- where a request is that isn't done

queued_there : {A : Type 0} (S : State A) (q r : ℕ) → Placed S → 1 ≤ count_by (λ x. x == r) (waiting_in S.queues q) → is_done (place_of S.requests r) ≡ false
queued_there S q r k more = queued_undone q (place_of S.requests r) (waits_there (count_by (λ x. x == r) (waiting_in S.queues q)) (is_queued_in q (place_of S.requests r)) (k.queued q r) more)

front_there : {A : Type 0} (S : State A) (q r : ℕ) → Placed S → same_id (front S.queues q) r ≡ true → is_done (place_of S.requests r) ≡ false
front_there S q r k h =
    let e = front_leaves r r (waiting_in S.queues q) h in
    let one : flag (r == r) ≡ 1 = ap flag (equal r r refl) in
    queued_there S q r k (omega arith)

given_undone : {A : Type 0} (S : State A) (r : ℕ) → is_given S r ≡ true → is_done (place_of S.requests r) ≡ false
given_undone S r h = owned_undone (place_of S.requests r) (both_left (is_owned (place_of S.requests r)) (same_kind (kind_of S.tree r) kind.Request) h)

module _ (plan : Plan) (L : ℕ → Bool) where
  -- ---- one request changes

  undone_before : (a b c : Bool) → (a && not b) ≡ true → c ≡ false → (a && not c) ≡ true
  undone_before true b c h e = rw e refl
  undone_before false b c h e = absurd (let z : ⊥ = cc in z)

  one_changes : (R : Requests) (r : ℕ) (f : Request → Request) → IsOpened plan L r (f (request_of R r)) → Opened plan L R → Opened plan L (with_request R r f)
  one_changes R r f new k x = elim (one_or_two x r) [
    | inl e ↦ rw e (subst (IsOpened plan L r) (sym (entry_put_same no_request R.all r (f (request_of R r)))) new)
    | inr n ↦ subst (IsOpened plan L x) (sym (entry_put_other no_request R.all r x (f (request_of R r)) n)) (k x)
  ]

  moves_it : (r : ℕ) (p : Place) (e : Request) → is_done e.place ≡ false → IsOpened plan L r e → IsOpened plan L r (moved p e)
  moves_it r p e old k = (λ h. k.0 old, λ h. k.1 (undone_before (has_arrived e) (is_done p) (is_done e.place) h old))

  moves : (R : Requests) (r : ℕ) (p : Place) → is_done (place_of R r) ≡ false → Opened plan L R → Opened plan L (requests.move_to R r p)
  moves R r p old k = one_changes R r (moved p) (moves_it r p (request_of R r) old (k r)) k

  ends : (R : Requests) (r : ℕ) → Opened plan L R → Opened plan L (requests.move_to R r place.Done)
  ends R r k = one_changes R r (moved place.Done) ((λ h. absurd (let z : ⊥ = cc in z)), (λ h. absurd (let z : false ≡ true = both_right (has_arrived (moved place.Done (request_of R r))) false h in let y : ⊥ = cc in y))) k

  same_it : (R : Requests) (r : ℕ) (f : Request → Request) → ((e : Request) → IsOpened plan L r e → IsOpened plan L r (f e)) → Opened plan L R → Opened plan L (with_request R r f)
  same_it R r f same k = one_changes R r f (same (request_of R r) (k r)) k

  new_one : (R : Requests) (r : ℕ) (p : Place) (info : RequestInfo) → IsOpened plan L r (record { place = p; info = info }) → Opened plan L R → Opened plan L (requests.arrive R r p info)
  new_one R r p info new k x = elim (one_or_two x r) [
    | inl e ↦ rw e (subst (IsOpened plan L r) (sym (entry_put_same no_request R.all r (record { place = p; info = info }))) new)
    | inr n ↦ subst (IsOpened plan L x) (sym (entry_put_other no_request R.all r x (record { place = p; info = info }) n)) (k x)
  ]

  -- ---- all requests

  closed_by : (r : ℕ) (e : Request) (b : Bool) → (b ≡ true → is_done e.place ≡ false) → IsOpened plan L r e → IsOpened plan L r (if b then moved (place.Closing status.Cancelled) e else e)
  closed_by r e true old k = moves_it r (place.Closing status.Cancelled) e (old refl) k
  closed_by r e false old k = k

  here_undone : (here : Place → Bool) (p : Place) → here place.Done ≡ false → here p ≡ true → is_done p ≡ false
  here_undone here place.Done off h = absurd (let z : ⊥ = cc in z)
  here_undone here _ off h = refl

  all_close : (R : Requests) (here : Place → Bool) → here place.Done ≡ false → Opened plan L R → Opened plan L (record R { all = map (closed_at here) R.all })
  all_close R here off k x =
      let blank : closed_at here no_request ≡ no_request = rw off refl in
      subst (IsOpened plan L x) (sym (entry_map no_request R.all (closed_at here) x blank)) (closed_by x (request_of R x) (here (request_of R x).place) (here_undone here (request_of R x).place off) (k x))

  blank_opened : (r : ℕ) → IsOpened plan L r no_request
  blank_opened r = (λ h. absurd (let z : ⊥ = cc in z), λ h. absurd (let z : ⊥ = cc in z))

  forgotten_by : (r : ℕ) (e : Request) (b : Bool) → IsOpened plan L r e → IsOpened plan L r (if b then no_request else e)
  forgotten_by r e true k = blank_opened r
  forgotten_by r e false k = k

  forgets : (R : Requests) (r : ℕ) → Opened plan L R → Opened plan L (requests.forget R r)
  forgets R r k x = elim (one_or_two x r) [
    | inl e ↦ rw e (subst (IsOpened plan L r) (sym (set_read no_request forgotten R.all r refl)) (forgotten_by r (request_of R r) (is_over (request_of R r)) (k r)))
    | inr n ↦ subst (IsOpened plan L x) (sym (entry_set_other no_request R.all r x (forgotten (request_of R r)) n)) (k x)
  ]

  -- ---- a request is cancelled in a queue

  cancelled_place : (R : Requests) (r x : ℕ) → place_of (requests.cancel R r) x ≡ place_of R x
  cancelled_place R r x = elim (one_or_two x r) [
    | inl e ↦ rw e (ap (λ (q : Request). q.place) (entry_put_same no_request R.all r (cancelled (request_of R r))))
    | inr n ↦ ap (λ (q : Request). q.place) (entry_put_other no_request R.all r x (cancelled (request_of R r)) n)
  ]

  cancels : (R : Requests) (r : ℕ) → Opened plan L R → Opened plan L (requests.cancel R r)
  cancels R r k = same_it R r cancelled (λ e h. h) k

  cancelled_in : {A : Type 0} (U : State A) (q r : ℕ) → is_done (place_of U.requests r) ≡ false → Opened plan L U.requests → Opened plan L (cancel_in plan U q r).requests
  cancelled_in U q r old k = moves (requests.cancel U.requests r) r (withdrawn_place plan U q r) (ap is_done (cancelled_place U.requests r r) ∙ old) (cancels U.requests r k)

  withdrawn_undone : (b : Bool) (q : ℕ) → is_done (if b then place.Returning (record { 0 = q }) else place.Closing status.Cancelled) ≡ false
  withdrawn_undone true q = refl
  withdrawn_undone false q = refl

  still_undone : {A : Type 0} (S : State A) (q r x : ℕ) → is_done (place_of S.requests x) ≡ false → is_done (place_of (withdraw plan q S r).requests x) ≡ false
  still_undone S q r x h =
      let C : Requests = requests.cancel S.requests r in
      elim (one_or_two x r) [
        | inl e ↦ rw e (ap (λ (y : Request). is_done y.place) (entry_put_same no_request C.all r (moved (withdrawn_place plan S q r) (request_of C r))) ∙ withdrawn_undone _ q)
        | inr n ↦ ap (λ (y : Request). is_done y.place) (entry_put_other no_request C.all r x (moved (withdrawn_place plan S q r) (request_of C r)) n) ∙ ap is_done (cancelled_place S.requests r x) ∙ h
      ]

  all_withdrawn : {A : Type 0} (q : ℕ) (rs : List ℕ) (S : State A) → ((r : ℕ) → 1 ≤ count_by (λ x. x == r) rs → is_done (place_of S.requests r) ≡ false) → Opened plan L S.requests → Opened plan L (fold (withdraw plan q) S rs).requests
  all_withdrawn q [] S h k = k
  all_withdrawn q (r ∷ rs) S h k =
      all_withdrawn q rs (withdraw plan q S r)
      (λ x more. still_undone S q r x (h x (let a = at_head x r rs in omega arith)))
      (cancelled_in S q r (h r (let a = at_head r r rs in let one : flag (r == r) ≡ 1 = ap flag (equal r r refl) in omega arith)) k)

  all_returning : {A : Type 0} (qs : List ℕ) (S : State A) → Opened plan L S.requests → Opened plan L (fold close_returning S qs).requests
  all_returning [] S k = k
  all_returning (q ∷ qs) S k = all_returning qs (close_returning S q) (all_close S.requests (is_returning_to q) refl k)

  all_closed : {A : Type 0} (qs : List ℕ) (S : State A) → Opened plan L S.requests → Opened plan L (fold close_queue S qs).requests
  all_closed [] S k = k
  all_closed (q ∷ qs) S k = all_closed qs (close_queue S q) (all_close S.requests (is_in q) refl k)

  -- ---- each deed

  as_before : (R U : Requests) → U ≡ R → Opened plan L R → Opened plan L U
  as_before R U e k = subst (Opened plan L) (sym e) k

  still_there : (R U : Requests) (r : ℕ) → U ≡ R → is_done (place_of R r) ≡ false → is_done (place_of U r) ≡ false
  still_there R U r e h = ap (λ (V : Requests). is_done (place_of V r)) e ∙ h

  enters : {A : Type 0} (S : State A) (r q : ℕ) → is_done (place_of S.requests r) ≡ false → Opened plan L S.requests → Opened plan L (requests.move_to (give_up S r).requests r (queued q))
  enters S r q old k =
      let e : (give_up S r).requests ≡ S.requests = given requests_of (λ S Q P. refl) S r in
      moves (give_up S r).requests r (queued q) (still_there S.requests (give_up S r).requests r e old) (as_before S.requests (give_up S r).requests e k)

  marked_it : (r : ℕ) (e : Request) (b : Bool) → IsOpened plan L r e → IsOpened plan L r (if b then e else with_mark marks.Marked e)
  marked_it r e true k = k
  marked_it r e false k = k

  unmarked_it : (r : ℕ) (e : Request) (b : Bool) → IsOpened plan L r e → IsOpened plan L r (if b then with_mark marks.Unmarked e else e)
  unmarked_it r e true k = k
  unmarked_it r e false k = k

  -- a deletion is asked, or a request is completed
  pub opened_asked : {A : Type 0} (S : State A) (o : ℕ) → Opened plan L S.requests → Opened plan L (do_deed plan (AskDeletion (object_id o)) S).requests
  opened_asked S o k = as_before S.requests (do_deed plan (AskDeletion (object_id o)) S).requests (asks_all requests_of (λ S T D W U. refl) (subtree S.tree o) S) k

  pub opened_completed : {A : Type 0} (S : State A) (r : ℕ) → Opened plan L S.requests → Opened plan L (do_deed plan (CompleteRequest (object_id r)) S).requests
  opened_completed S r k =
      as_before (requests.complete S.requests r) (do_deed plan (CompleteRequest (object_id r)) S).requests
      (asks_all requests_of (λ S T D W U. refl) (subtree (give_up S r).tree r) (record (give_up S r) { requests = requests.complete S.requests r }))
      (ends S.requests r k)

  -- a request arrives at a device that passes
  abbrev pub ArrivesWell : Deed → Type 0
  ArrivesWell (Arrive device info at) = L device.0 ≡ true
  ArrivesWell _ = ⊤

  -- a deed
  pub opened_by : {A : Type 0} (d : Deed) (S : State A) → fits plan d S ≡ true → Sound plan d S → Placed S → declared_end plan ≤ next_id S.tree → ArrivesWell d → Opened plan L S.requests
      → Opened plan L (do_deed plan d S).requests
  opened_by (MakeRequest class parent) S f s p room comes k = new_one S.requests (next_id S.tree) place.Owned (made_info (nearest_device S.tree parent.0)) (λ h. room, λ h. absurd (let z : ⊥ = cc in z)) k
  opened_by (Arrive device info at) S f s p room comes k =
      as_before (requests.arrive S.requests (next_id S.tree) at info) (arrive_at S device.0 info at).requests (arrived_requests S device.0 info at)
      (new_one S.requests (next_id S.tree) at info (λ h. room, λ h. ap L s.0 ∙ comes) k)
  opened_by (AskDeletion o) S f s p room comes k = opened_asked S o.0 k
  opened_by (EndLife o) S f s p room comes k = forgets S.requests o.0 k
  opened_by (Present q r) S f s p room comes k = moves S.requests r.0 place.Owned (front_there S q.0 r.0 p f) k
  opened_by (Receive q r) S f s p room comes k = moves S.requests r.0 place.Owned (returning_undone q.0 (place_of S.requests r.0) f) k
  opened_by (Requeue r q) S f s p room comes k = enters S r.0 q.0 (given_undone S r.0 f) k
  opened_by (Forward r q) S f s p room comes k = enters S r.0 q.0 (given_undone S r.0 (search both_left)) k
  opened_by (GiveBack r q) S f s p room comes k =
      let e : (give_up S r.0).requests ≡ S.requests = given requests_of (λ S Q P. refl) S r.0 in
      cancelled_in (give_up S r.0) q.0 r.0 (still_there S.requests (give_up S r.0).requests r.0 e (given_undone S r.0 f)) (as_before S.requests (give_up S r.0).requests e k)
  opened_by (Withdraw q r) S f s p room comes k = cancelled_in S q.0 r.0 (queued_undone q.0 (place_of S.requests r.0) f) k
  opened_by (MarkRequest r) S f s p room comes k = same_it S.requests r.0 marked (λ e h. marked_it r.0 e e.info.cancelled h) k
  opened_by (UnmarkRequest r) S f s p room comes k = same_it S.requests r.0 unmarked (λ e h. unmarked_it r.0 e (is_marked e.info.mark) h) k
  opened_by (CancelRequest r) S f s p room comes k = cancels S.requests r.0 k
  opened_by (TakeCancel r) S f s p room comes k = same_it S.requests r.0 (with_mark marks.Taken) (λ e h. h) k
  opened_by (SendRequest r t forget) S f s p room comes k =
      let owned : is_owned (place_of S.requests r.0) ≡ true = search both_left in
      let e : (give_up_if forget S r.0).requests ≡ S.requests = given_if requests_of (λ S Q P. refl) S forget r.0 in
      moves (give_up_if forget S r.0).requests r.0 (place.Sent (record { 0 = t.0 })) (still_there S.requests (give_up_if forget S r.0).requests r.0 e (owned_undone (place_of S.requests r.0) owned)) (as_before S.requests (give_up_if forget S r.0).requests e k)
  opened_by (FinishSending r t) S f s p room comes k =
      let sent : is_sent (place_of S.requests r.0) ≡ true = both_left (is_sent (place_of S.requests r.0)) (is_undone S.targets r.0) f in
      moves S.requests r.0 (finished_at (is_forgotten S.targets r.0) t (place_of S.requests r.0)) (sent_undone (place_of S.requests r.0) sent) k
  opened_by (ComeBack r) S f s p room comes k =
      let sent : is_sent (place_of S.requests r.0) ≡ true = both_left (is_sent (place_of S.requests r.0)) (is_some (routine_due S.targets r.0)) f in
      moves S.requests r.0 place.Owned (sent_undone (place_of S.requests r.0) sent) k
  opened_by (CompleteRequest r) S f s p room comes k = opened_completed S r.0 k
  opened_by (PurgeQueue q) S f s p room comes k = all_withdrawn q.0 (waiting_in S.queues q.0) (record S { control = control.set_mode S.control q.0 mode.Purged }) (λ r more. queued_there S q.0 r p more) k
  opened_by (CloseReturning x) S f s p room comes k = all_returning (managed_queues plan x.0) S k
  opened_by (CloseDevice x) S f s p room comes k = all_closed (queues_of plan x.0) (record S { control = control.shut S.control x.0 }) k
  opened_by _ S f s p room comes k = k
