-- How a request's mark goes with what the events say of it: what each deed keeps, but for those that mark, cancel or
-- complete a request.
use Rattle.std.proofs.Common.{if◌then◌else◌, ◌≡◌, ◌≢◌, ℕ, ◌+◌, ◌==◌, ◌<◌, ◌≤◌, Bool, true, false, not, ◌&&◌, List, [], ◌∷◌, ◌⊎◌, inl, inr, is_some, length, count_by, drop, map, fold, refl, sym, ap, subst, ◌∙◌, arith}
use Rattle.std.proofs.lemmas.Bool.{cases_Bool}
use Rattle.std.proofs.lemmas.List.{length-map}
use Rattle.wdf_base.specs.declared.plan.Plan.{Plan}
use Rattle.wdf_base.specs.declared.value.Status.TheVariants as status
use Rattle.wdf_base.specs.declared.object.Mark.{Mark}
use Rattle.wdf_base.specs.declared.object.Mark.TheVariants as marks
use Rattle.wdf_base.specs.declared.object.Place.{Place}
use Rattle.wdf_base.specs.declared.object.Place.TheVariants as place
use Rattle.wdf_base.specs.declared.object.RequestInfo.{RequestInfo}
use Rattle.wdf_base.specs.Places.{is_done, is_due, is_marked, is_owned, is_queued_in, is_returning_to, is_sent}
use Rattle.wdf_model.specs.declared.enums.Mode.TheVariants as mode
use Rattle.wdf_model.specs.declared.entries.Request.{Request}
use Rattle.wdf_model.specs.Tables.{entry, flag, put, same_id}
use Rattle.wdf_model.specs.Plans.{managed_queues, queues_of}
use Rattle.wdf_model.specs.parts.Tree.{nearest_device, next_id, subtree}
use Rattle.wdf_model.specs.parts.Requests.{Requests, cancelled, closed_at, forgotten, info_of, is_cancelled, is_in, is_over, made_info, mark_at, mark_of, moved, no_request, place_of, request_of, unmarked, with_mark, with_request}
use Rattle.wdf_model.specs.parts.Requests as requests
use Rattle.wdf_model.specs.parts.Queues.{front, waiting_in}
use Rattle.wdf_model.specs.parts.Queues as queues
use Rattle.wdf_model.specs.parts.Control as control
use Rattle.wdf_model.specs.parts.Targets.{is_forgotten, is_undone, routine_due}
use Rattle.wdf_model.specs.State.{State, returns_to, withdrawn_place}
use Rattle.wdf_model.specs.Ids.{object_id}
use Rattle.wdf_model.specs.declared.deed.Deed.{Deed}
use Rattle.wdf_model.specs.declared.deed.Deed.TheVariants.{MakeRequest, Arrive, AskDeletion, EndLife, Present, Receive, Requeue, Forward, GiveBack, Withdraw, MarkRequest, UnmarkRequest, CancelRequest, TakeCancel, SendRequest, FinishSending, ComeBack, CompleteRequest, PurgeQueue, CloseReturning, CloseDevice}
use Rattle.wdf_model.specs.rules.Deeds.{close_queue, close_returning, do_deed, do_deeds, finished_at, give_up, give_up_if, queued, withdraw}
use Rattle.law_machine_base.specs.Fits.{all_fit, fits}
use Rattle.wdf_model.proofs.Tests.{both_left, both_right, itself, not_true}
use Rattle.wdf_model.proofs.Maps.{as_long, entry_map, entry_put_other, entry_put_same, entry_set_other, put_long, set_read}
use Rattle.wdf_model.proofs.Counts.{flag_yes, front_leaves, one_or_two}
use Rattle.law_machine_base.proofs.KeptByDeeds.{KeptIn, deed_keeps, is_arrival, owned_undone}
use Rattle.law_machine_lives.proofs.Stays.{asks_all, given, given_if}
use Rattle.law_machine_lives.proofs.Readers.{requests_of}
use Rattle.law_machine_lives.proofs.Places.{inside_undone, sent_undone}
use Rattle.law_trace_requests.proofs.Quiet.{is_loud, none_loud}
use Rattle.law_machine_counts.proofs.Undone.{finished_undone, queued_undone, returning_undone}

-- ---- one request

abbrev pub is_armed : Mark → Bool
is_armed marks.Marked = true
is_armed marks.Due = true
is_armed _ = false

-- a mark is one that the events give: m says that a good marking holds, and c that a cancel was posted
abbrev pub is_told : Bool → Bool → Mark → Bool
is_told m c marks.Marked = m
is_told m c marks.Due = m && c
is_told m c _ = true

-- A mark of a request at a place, cancelled or not, goes with what the events say; b says that its EvtRequestCancel began.
pub record Goes (m c b : Bool) (p : Place) (k : Mark) (z : Bool) : Type 0 where
  pub told : is_told m c k ≡ true
  pub owned : is_armed k ≡ true → is_owned p ≡ true
  pub due : is_due k ≡ true → z ≡ true
  pub begun : b ≡ true → (is_armed k ≡ false) × ((z ≡ true) ⊎ (is_done p ≡ true))

abbrev pub GoesOf : Bool → Bool → Bool → Request → Type 0
GoesOf m c b q = Goes m c b q.place q.info.mark q.info.cancelled

-- a request that leaves its place without a mark
unmarked_there : (m c b : Bool) (x p : Place) (k : Mark) (z : Bool) → is_done x ≡ false → Goes m c b x k z → Goes m c b p marks.Unmarked z
unmarked_there m c b x p k z undone g = record {
  told = refl;
  owned = λ h. absurd (let z : ⊥ = cc in z);
  due = λ h. absurd (let z : ⊥ = cc in z);
  begun = λ h. (
    refl,
    elim (g.begun h).1 [
      | inl e ↦ inl e
      | inr d ↦ absurd (let z : ⊥ = cc in z)
    ],
  );
}

-- a request that moves to another place
moves_to : (m c b : Bool) (x p : Place) (k : Mark) (z : Bool) → is_done x ≡ false → (is_done p ≡ true → is_armed k ≡ false) → Goes m c b x k z → Goes m c b p (mark_at p k) z
moves_to m c b x place.Owned k z undone off g = record {
  told = g.told;
  owned = λ h. refl;
  due = g.due;
  begun = λ h. (
    (g.begun h).0,
    elim (g.begun h).1 [
      | inl e ↦ inl e
      | inr d ↦ absurd (let z : ⊥ = cc in z)
    ],
  );
}
moves_to m c b x place.Done k z undone off g = record {
  told = g.told;
  owned = λ h. absurd (let never = off refl in let z : ⊥ = cc in z);
  due = g.due;
  begun = λ h. (off refl, inr refl);
}
moves_to m c b x (place.Queued q) k z undone off g = unmarked_there m c b x (place.Queued q) k z undone g
moves_to m c b x (place.Returning q) k z undone off g = unmarked_there m c b x (place.Returning q) k z undone g
moves_to m c b x (place.Sent t) k z undone off g = unmarked_there m c b x (place.Sent t) k z undone g
moves_to m c b x (place.Closing s) k z undone off g = unmarked_there m c b x (place.Closing s) k z undone g

-- a request that is cancelled where it isn't marked
pub cancelled_off : (m c b : Bool) (p : Place) (k : Mark) → is_armed k ≡ false → is_told m c k ≡ true → Goes m c b p k true
cancelled_off m c b p k off told = record {
  told = told;
  owned = λ h. absurd (let z : ⊥ = cc in z);
  due = λ h. refl;
  begun = λ h. (off, inl refl);
}

-- a request that loses its mark and stays where it is
disarmed : (m c b : Bool) (p : Place) (k j : Mark) (z : Bool) → is_armed j ≡ false → is_due j ≡ false → is_told m c j ≡ true → Goes m c b p k z → Goes m c b p j z
disarmed m c b p k j z off not_due told g = record {
  told = told;
  owned = λ h. absurd (let z : ⊥ = cc in z);
  due = λ h. absurd (let z : ⊥ = cc in z);
  begun = λ h. (off, (g.begun h).1);
}

unmarked_by : (m c b : Bool) (q : Request) (u : Bool) → GoesOf m c b q → GoesOf m c b (if u then with_mark marks.Unmarked q else q)
unmarked_by m c b q true g = disarmed m c b q.place q.info.mark marks.Unmarked q.info.cancelled refl refl refl g
unmarked_by m c b q false g = g

gone_by : (m c b : Bool) (q : Request) (u : Bool) → GoesOf m c b q → GoesOf m c b (if u then no_request else q)
gone_by m c b q true g = record { told = refl; owned = λ h. absurd (let z : ⊥ = cc in z); due = λ h. absurd (let z : ⊥ = cc in z); begun = λ h. (refl, inr refl) }
gone_by m c b q false g = g

closed_by : (m c b : Bool) (q : Request) (u : Bool) → (u ≡ true → is_done q.place ≡ false) → GoesOf m c b q → GoesOf m c b (if u then moved (place.Closing status.Cancelled) q else q)
closed_by m c b q true undone g = moves_to m c b q.place (place.Closing status.Cancelled) q.info.mark q.info.cancelled (undone refl) (λ h. absurd (let z : ⊥ = cc in z)) g
closed_by m c b q false undone g = g

-- ---- all requests

pub record GoesAt (m c b : Bool) (R : Requests) (r : ℕ) : Type 0 where
  pub goes : GoesOf m c b (request_of R r)
  -- a request whose EvtRequestCancel began has its entry
  pub there : b ≡ true → r < length R.all

-- whatever the events say of each request, it goes with what was, and with what is
abbrev pub StillGoes : Requests → Requests → Type 0
StillGoes R U = (m c b : Bool) (x : ℕ) → GoesAt m c b R x → GoesAt m c b U x

pub still_same : (R U : Requests) → U ≡ R → StillGoes R U
still_same R U e = subst (StillGoes R) (sym e) (λ m c b x g. g)

pub still_then : (R U V : Requests) → StillGoes R U → StillGoes U V → StillGoes R V
still_then R U V h k m c b x g = k m c b x (h m c b x g)

-- a request changes, and the others stay
pub one_at : (R : Requests) (r : ℕ) (q : Request) (m c b : Bool) → GoesOf m c b q → (x : ℕ) → x ≡ r → GoesAt m c b R x → GoesAt m c b (record R { all = put no_request R.all r q }) x
one_at R r q m c b there x e g = record {
  goes = subst (λ (y : Request). GoesOf m c b y) (sym (ap (request_of (record R { all = put no_request R.all r q })) e ∙ entry_put_same no_request R.all r q)) there;
  there = λ h. let was = g.there h in let more = put_long no_request R.all r q in omega arith;
}

pub others_at : (R : Requests) (r : ℕ) (q : Request) (m c b : Bool) (x : ℕ) → x ≢ r → GoesAt m c b R x → GoesAt m c b (record R { all = put no_request R.all r q }) x
others_at R r q m c b x n g = record {
  goes = subst (λ (y : Request). GoesOf m c b y) (sym (entry_put_other no_request R.all r x q n)) g.goes;
  there = λ h. let was = g.there h in let more = put_long no_request R.all r q in omega arith;
}

one_changes : (R : Requests) (r : ℕ) (f : Request → Request) → ((m c b : Bool) → GoesOf m c b (request_of R r) → GoesOf m c b (f (request_of R r))) → StillGoes R (with_request R r f)
one_changes R r f h m c b x g = elim (one_or_two x r) [
  | inl e ↦ one_at R r (f (request_of R r)) m c b (h m c b (subst (λ (y : ℕ). GoesOf m c b (request_of R y)) e g.goes)) x e g
  | inr n ↦ others_at R r (f (request_of R r)) m c b x n g
]

pub moves : (R : Requests) (r : ℕ) (p : Place) → is_done (place_of R r) ≡ false → (is_done p ≡ true → is_armed (mark_of R r) ≡ false) → StillGoes R (requests.move_to R r p)
moves R r p undone off = one_changes R r (moved p) (λ m c b g. moves_to m c b (place_of R r) p (mark_of R r) (is_cancelled R r) undone off g)

-- a request that is cancelled in a queue
cancels : (R : Requests) (r : ℕ) (p : Place) → ((k : Mark) → mark_at p k ≡ marks.Unmarked) → StillGoes R (requests.move_to (requests.cancel R r) r p)
cancels R r p off m c b x g = elim (one_or_two x r) [
  | inl e ↦
      let C = requests.cancel R r in
      let first : request_of C r ≡ cancelled (request_of R r) = entry_put_same no_request R.all r (cancelled (request_of R r)) in
      let both_ : GoesOf m c b (moved p (cancelled (request_of R r))) = rw (off (cancelled (request_of R r)).info.mark) (cancelled_off m c b p marks.Unmarked refl refl) in
      let more = put_long no_request R.all r (cancelled (request_of R r)) in
      let again = put_long no_request C.all r (moved p (request_of C r)) in
      record {
        goes = subst (λ (y : Request). GoesOf m c b y) (sym (ap (request_of (requests.move_to C r p)) e ∙ entry_put_same no_request C.all r (moved p (request_of C r)) ∙ ap (moved p) first)) both_;
        there = λ h. let was = g.there h in omega arith;
      }
  | inr n ↦ others_at (requests.cancel R r) r (moved p (request_of (requests.cancel R r) r)) m c b x n (others_at R r (cancelled (request_of R r)) m c b x n g)
]

all_close : (R : Requests) (here : Place → Bool) → here place.Done ≡ false → ((p : Place) → here p ≡ true → is_done p ≡ false) → StillGoes R (record R { all = map (closed_at here) R.all })
all_close R here off undone m c b x g =
    let blank : closed_at here no_request ≡ no_request = rw off refl in
    let same : request_of (record R { all = map (closed_at here) R.all }) x ≡ closed_at here (request_of R x) = entry_map no_request R.all (closed_at here) x blank in
    record {
      goes = subst (λ (y : Request). GoesOf m c b y) (sym same) (closed_by m c b (request_of R x) (here (request_of R x).place) (undone (request_of R x).place) g.goes);
      there = λ h. let was = g.there h in let long = length-map R.all (closed_at here) in omega arith;
    }

forgets : (R : Requests) (r : ℕ) → StillGoes R (requests.forget R r)
forgets R r m c b x g = elim (one_or_two x r) [
  | inl e ↦
      let here : request_of (requests.forget R r) r ≡ forgotten (request_of R r) = set_read no_request forgotten R.all r refl in
      let was : GoesOf m c b (request_of R r) = subst (λ (y : ℕ). GoesOf m c b (request_of R y)) e g.goes in
      record {
        goes = subst (λ (y : Request). GoesOf m c b y) (sym (ap (request_of (requests.forget R r)) e ∙ here)) (gone_by m c b (request_of R r) (is_over (request_of R r)) was);
        there = λ h. let within = g.there h in let long = as_long R.all r (forgotten (request_of R r)) in omega arith;
      }
  | inr n ↦ record {
    goes = subst (λ (y : Request). GoesOf m c b y) (sym (entry_set_other no_request R.all r x (forgotten (request_of R r)) n)) g.goes;
    there = λ h. let within = g.there h in let long = as_long R.all r (forgotten (request_of R r)) in omega arith;
  }
]

-- the entries alone count
same_entries : (R U : Requests) (m c b : Bool) (x : ℕ) → U.all ≡ R.all → GoesAt m c b R x → GoesAt m c b U x
same_entries R U m c b x e g = record {
  goes = subst (λ (qs : List Request). GoesOf m c b (entry no_request qs x)) (sym e) g.goes;
  there = λ h. let was = g.there h in let long = ap length e in omega arith;
}

-- a request that is new, and not marked
pub new_request_comes : (R : Requests) (r : ℕ) (p : Place) (info : RequestInfo) → length R.all ≤ r → info.mark ≡ marks.Unmarked → StillGoes R (requests.arrive R r p info)
new_request_comes R r p info new off m c b x g =
    same_entries (record R { all = put no_request R.all r (record { place = p; info = info }) }) (requests.arrive R r p info) m c b x refl (elim (one_or_two x r) [
      | inl e ↦ one_at R r (record { place = p; info = info }) m c b (rw off (record {
        told = refl;
        owned = λ h. absurd (let z : ⊥ = cc in z);
        due = λ h. absurd (let z : ⊥ = cc in z);
        begun = λ h. absurd (let within = g.there h in omega arith);
      })) x e g
      | inr n ↦ others_at R r (record { place = p; info = info }) m c b x n g
    ])

-- ---- places

pub withdrawn_unmarked : {A : Type 0} (plan : Plan) (S : State A) (q r : ℕ) (k : Mark) → mark_at (withdrawn_place plan S q r) k ≡ marks.Unmarked
withdrawn_unmarked plan S q r k = elim (cases_Bool ((info_of S.requests r).received && returns_to plan S q)) [
  | inl e ↦ rw e refl
  | inr e ↦ rw e refl
]

-- the front of a queue is Queued there
pub front_queued : {A : Type 0} {F B : ℕ → Bool} (S : State A) (q r : ℕ) → same_id (front S.queues q) r ≡ true → KeptIn F B S → is_queued_in q (place_of S.requests r) ≡ true
front_queued S q r h k =
    let counted : count_by (λ x. x == r) (waiting_in S.queues q) ≡ flag (r == r) + count_by (λ x. x == r) (drop 1 (waiting_in S.queues q)) = front_leaves r r (waiting_in S.queues q) h in
    let one : flag (r == r) ≡ 1 = ap flag (itself r) in
    let stood : count_by (λ x. x == r) (waiting_in S.queues q) ≡ flag (is_queued_in q (place_of S.requests r)) = k.queued q r in
    flag_yes (is_queued_in q (place_of S.requests r)) (count_by (λ x. x == r) (drop 1 (waiting_in S.queues q))) (omega arith)

-- ---- deeds

all_withdrawn : {A : Type 0} (plan : Plan) (q : ℕ) (rs : List ℕ) (S : State A) → StillGoes S.requests (fold (withdraw plan q) S rs).requests
all_withdrawn plan q [] S = λ m c b x g. g
all_withdrawn plan q (r ∷ rs) S =
    still_then S.requests (withdraw plan q S r).requests (fold (withdraw plan q) (withdraw plan q S r) rs).requests (cancels S.requests r _ (λ k. withdrawn_unmarked plan (record S { queues = queues.take_cancelled S.queues r }) q r k))
    (all_withdrawn plan q rs (withdraw plan q S r))

all_returning : {A : Type 0} (qs : List ℕ) (S : State A) → StillGoes S.requests (fold close_returning S qs).requests
all_returning [] S = λ m c b x g. g
all_returning (q ∷ qs) S = still_then S.requests (close_returning S q).requests (fold close_returning (close_returning S q) qs).requests (all_close S.requests (is_returning_to q) refl (returning_undone q)) (all_returning qs (close_returning S q))

all_closed : {A : Type 0} (qs : List ℕ) (S : State A) → StillGoes S.requests (fold close_queue S qs).requests
all_closed [] S = λ m c b x g. g
all_closed (q ∷ qs) S = still_then S.requests (close_queue S q).requests (fold close_queue (close_queue S q) qs).requests (all_close S.requests (is_in q) refl (inside_undone q)) (all_closed qs (close_queue S q))

-- what is given back by the driver
pub gives_back : {A : Type 0} (plan : Plan) (S : State A) (r q : ℕ) → StillGoes S.requests (do_deed plan (GiveBack (object_id r) (object_id q)) S).requests
gives_back plan S r q =
    still_then S.requests (give_up S r).requests (do_deed plan (GiveBack (object_id r) (object_id q)) S).requests (still_same S.requests (give_up S r).requests (given requests_of (λ S Q P. refl) S r))
    (cancels (give_up S r).requests r (withdrawn_place plan (give_up S r) q r) (withdrawn_unmarked plan (give_up S r) q r))

moves_then : (R U : Requests) (r : ℕ) (p : Place) → U ≡ R → is_done (place_of R r) ≡ false → is_done p ≡ false → StillGoes R (requests.move_to U r p)
moves_then R U r p e undone off =
    subst (λ (V : Requests). StillGoes R (requests.move_to V r p)) (sym e) (moves R r p undone (λ h. absurd (let z : ⊥ = cc in z)))

pub enters_at_head : {A : Type 0} (plan : Plan) (S : State A) (r q : ℕ) → is_owned (place_of S.requests r) ≡ true → StillGoes S.requests (do_deed plan (Requeue (object_id r) (object_id q)) S).requests
enters_at_head plan S r q h = moves_then S.requests (give_up S r).requests r (queued q) (given requests_of (λ S Q P. refl) S r) (owned_undone (place_of S.requests r) h) refl

pub enters_at_tail : {A : Type 0} (plan : Plan) (S : State A) (r q : ℕ) → is_owned (place_of S.requests r) ≡ true → StillGoes S.requests (do_deed plan (Forward (object_id r) (object_id q)) S).requests
enters_at_tail plan S r q h = moves_then S.requests (give_up S r).requests r (queued q) (given requests_of (λ S Q P. refl) S r) (owned_undone (place_of S.requests r) h) refl

pub completed_requests : {A : Type 0} (plan : Plan) (S : State A) (r : ℕ) → (do_deed plan (CompleteRequest (object_id r)) S).requests ≡ requests.move_to S.requests r place.Done
completed_requests plan S r = asks_all requests_of (λ S T D W U. refl) (subtree (give_up S r).tree r) (record (give_up S r) { requests = requests.complete S.requests r })

-- a deed that is none of the loud ones
pub deed_still : {A : Type 0} {F B : ℕ → Bool} (plan : Plan) (d : Deed) (S : State A) → is_loud d ≡ false → fits plan d S ≡ true → KeptIn F B S → StillGoes S.requests (do_deed plan d S).requests
deed_still plan (MarkRequest r) S l f k = absurd (let z : ⊥ = cc in z)
deed_still plan (CancelRequest r) S l f k = absurd (let z : ⊥ = cc in z)
deed_still plan (CompleteRequest r) S l f k = absurd (let z : ⊥ = cc in z)
deed_still plan (Arrive device info p) S l f k = absurd (let z : ⊥ = cc in z)
deed_still plan (Requeue r q) S l f k = absurd (let z : ⊥ = cc in z)
deed_still plan (Forward r q) S l f k = absurd (let z : ⊥ = cc in z)
deed_still plan (MakeRequest class parent) S l f k = new_request_comes S.requests (next_id S.tree) place.Owned (made_info (nearest_device S.tree parent.0)) k.room refl
deed_still plan (AskDeletion o) S l f k = still_same _ _ (asks_all requests_of (λ S T D W U. refl) (subtree S.tree o.0) S)
deed_still plan (EndLife o) S l f k = forgets S.requests o.0
deed_still plan (Present q r) S l f k = moves S.requests r.0 place.Owned (queued_undone q.0 (place_of S.requests r.0) (front_queued S q.0 r.0 f k)) (λ h. absurd (let z : ⊥ = cc in z))
deed_still plan (Receive q r) S l f k = moves S.requests r.0 place.Owned (returning_undone q.0 (place_of S.requests r.0) f) (λ h. absurd (let z : ⊥ = cc in z))
deed_still plan (GiveBack r q) S l f k = gives_back plan S r.0 q.0
deed_still plan (Withdraw q r) S l f k = cancels S.requests r.0 (withdrawn_place plan (record S { queues = queues.take_cancelled S.queues r.0 }) q.0 r.0) (withdrawn_unmarked plan (record S { queues = queues.take_cancelled S.queues r.0 }) q.0 r.0)
deed_still plan (UnmarkRequest r) S l f k = one_changes S.requests r.0 unmarked (λ m c b g. unmarked_by m c b (request_of S.requests r.0) (is_marked (request_of S.requests r.0).info.mark) g)
deed_still plan (TakeCancel r) S l f k =
    one_changes S.requests r.0 (with_mark marks.Taken) (λ m c b g. disarmed m c b (place_of S.requests r.0) (mark_of S.requests r.0) marks.Taken (is_cancelled S.requests r.0) refl refl refl g)
deed_still plan (SendRequest r t forget) S l f k =
    moves_then S.requests (give_up_if forget S r.0).requests r.0 (place.Sent (record { 0 = t.0 })) (given_if requests_of (λ S Q P. refl) S forget r.0)
    (owned_undone (place_of S.requests r.0) (search (both_left, both_right))) refl
deed_still plan (FinishSending r s) S l f k =
    let is : is_sent (place_of S.requests r.0) ≡ true = both_left (is_sent (place_of S.requests r.0)) (is_undone S.targets r.0) f in
    let off : is_done (finished_at (is_forgotten S.targets r.0) s (place_of S.requests r.0)) ≡ false = finished_undone (is_forgotten S.targets r.0) s (place_of S.requests r.0) is in
    moves S.requests r.0 (finished_at (is_forgotten S.targets r.0) s (place_of S.requests r.0)) (sent_undone (place_of S.requests r.0) is) (λ h. absurd (let z : ⊥ = cc in z))
deed_still plan (ComeBack r) S l f k =
    moves S.requests r.0 place.Owned (sent_undone (place_of S.requests r.0) (both_left (is_sent (place_of S.requests r.0)) (is_some (routine_due S.targets r.0)) f)) (λ h. absurd (let z : ⊥ = cc in z))
deed_still plan (PurgeQueue q) S l f k = all_withdrawn plan q.0 (waiting_in S.queues q.0) (record S { control = control.set_mode S.control q.0 mode.Purged })
deed_still plan (CloseReturning d) S l f k = all_returning (managed_queues plan d.0) S
deed_still plan (CloseDevice d) S l f k = all_closed (queues_of plan d.0) (record S { control = control.shut S.control d.0 })
deed_still plan _ S l f k = λ m c b x g. g

-- a loud deed isn't an arrival
quiet_stays : (d : Deed) → is_loud d ≡ false → is_arrival d ≡ false
quiet_stays (Arrive device info p) h = absurd (let z : ⊥ = cc in z)
quiet_stays _ h = refl

-- deeds that are none of them
pub deeds_still : {A : Type 0} {F B : ℕ → Bool} (plan : Plan) (ds : List Deed) (S : State A) → none_loud ds ≡ true → all_fit plan ds S ≡ true → KeptIn F B S → StillGoes S.requests (do_deeds plan ds S).requests
deeds_still plan [] S l f k = λ m c b x g. g
deeds_still plan (d ∷ ds) S l f k =
    let quiet : is_loud d ≡ false = not_true (is_loud d) (both_left (not (is_loud d)) (none_loud ds) l) in
    let fit : fits plan d S ≡ true = both_left (fits plan d S) (all_fit plan ds (do_deed plan d S)) f in
    let none : is_arrival d ≡ false = quiet_stays d quiet in
    still_then S.requests (do_deed plan d S).requests (do_deeds plan ds (do_deed plan d S)).requests (deed_still plan d S quiet fit k)
    (deeds_still plan ds (do_deed plan d S) (both_right (not (is_loud d)) (none_loud ds) l) (both_right (fits plan d S) (all_fit plan ds (do_deed plan d S)) f)
    (deed_keeps plan d S fit (λ a. absurd (let z : ⊥ = cc in z)) k))
