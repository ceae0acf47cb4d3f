-- What a callback has of its request stays, whatever others do: no deed but those on the request by its owner takes it away.
use Rattle.std.proofs.Common.{if◌then◌else◌, ◌≡◌, ◌≢◌, ℕ, ◌==◌, ◌<◌, ◌≤◌, Bool, true, false, ◌&&◌, ◌||◌, List, [], ◌∷◌, ◌⊎◌, inl, inr, is_some, is_none, length, count_by, map, fold, refl, sym, ap, subst, ◌∙◌, arith}
use Rattle.std.specs.Prelude.{⊤}
use Rattle.std.proofs.lemmas.Bool.{cases_Bool}
use Rattle.std.proofs.lemmas.List.{length-map}
use Rattle.wdf_base.specs.declared.plan.Plan.{Plan}
use Rattle.wdf_base.specs.declared.value.Status.TheVariants as status
use Rattle.wdf_base.specs.declared.object.Mark.{Mark}
use Rattle.wdf_base.specs.declared.object.Mark.TheVariants as marks
use Rattle.wdf_base.specs.declared.object.Place.{Place}
use Rattle.wdf_base.specs.declared.object.Place.TheVariants as place
use Rattle.wdf_base.specs.declared.object.RequestInfo.{RequestInfo}
use Rattle.wdf_base.specs.Places.{is_closing, is_done, is_due, is_marked, is_owned, is_queued_in, is_returning_to, is_sent}
use Rattle.wdf_model.specs.declared.enums.Mode.TheVariants as mode
use Rattle.wdf_model.specs.declared.entries.Request.{Request}
use Rattle.wdf_model.specs.Tables.{flag}
use Rattle.wdf_model.specs.Plans.{managed_queues, queues_of}
use Rattle.wdf_model.specs.parts.Tree.{nearest_device, next_id}
use Rattle.wdf_model.specs.parts.Tree as tree
use Rattle.wdf_model.specs.parts.Requests.{Requests, cancelled, closed_at, forgotten, info_of, is_in, is_over, made_info, mark_at, mark_cancelled, mark_of, moved, no_request, place_of, request_of, unmarked, with_mark, with_request}
use Rattle.wdf_model.specs.parts.Requests as requests
use Rattle.wdf_model.specs.parts.Queues.{waiting_in}
use Rattle.wdf_model.specs.parts.Queues as queues
use Rattle.wdf_model.specs.parts.Control as control
use Rattle.wdf_model.specs.parts.Targets.{is_undone, routine_due}
use Rattle.wdf_model.specs.State.{State, is_with_driver, returns_to, withdrawn_place}
use Rattle.wdf_model.specs.declared.deed.Deed.{Deed}
use Rattle.wdf_model.specs.declared.deed.Deed.TheVariants.{MakeRequest, Arrive, AskDeletion, EndLife, Present, Receive, Requeue, Forward, GiveBack, Withdraw, MarkRequest, UnmarkRequest, CancelRequest, TakeCancel, SendRequest, FinishSending, ComeBack, CompleteRequest, PurgeQueue, CloseReturning, CloseDevice}
use Rattle.wdf_model.specs.rules.Deeds.{ask_objects, close_queue, close_returning, do_deed, enter_if_queued, give_up, give_up_if, queued, withdraw}
use Rattle.law_machine_base.specs.Fits.{fits}
use Rattle.wdf_model.proofs.Tests.{both_left, itself}
use Rattle.wdf_model.proofs.Maps.{as_long, entry_map, entry_put_other, entry_put_same, entry_set_other, put_long, set_read}
use Rattle.wdf_model.proofs.Counts.{count_cons, one_or_two}
use Rattle.law_machine_base.proofs.Deletion.{asking_deletes}
use Rattle.law_machine_base.proofs.KeptByDeeds.{KeptIn}
use Rattle.law_machine_base.proofs.KeptMoves.{front_queued}
use Rattle.law_machine_counts.proofs.Totals.{flagged}
use Rattle.law_trace_settled.proofs.Returning.{given_requests}

-- ---- one request

-- a mark whose cancel may come or is due
abbrev pub is_armed : Mark → Bool
is_armed m = is_marked m || is_due m

-- a callback owns it, and it isn't cancelable
pub record Owned (q : Request) : Type 0 where
  pub owned : is_owned q.place ≡ true
  pub off : is_armed q.info.mark ≡ false
  pub came : is_none q.info.origin ≡ false

-- a callback marked it, and no cancel has come
pub record Cancelable (q : Request) : Type 0 where
  pub owned : is_owned q.place ≡ true
  pub marked : is_marked q.info.mark ≡ true
  pub live : q.info.cancelled ≡ false
  pub came : is_none q.info.origin ≡ false

-- it is never cancelable again: it is cancelled, or completed
pub record Spent (q : Request) : Type 0 where
  pub off : is_marked q.info.mark ≡ false
  pub over : (q.info.cancelled ≡ true) ⊎ (is_done q.place ≡ true)

-- what others may do to a request
pub record Later (p q : Request) : Type 0 where
  pub owned : Owned p → Owned q
  pub cancelable : Cancelable p → Cancelable q ⊎ Spent q
  pub spent : Spent p → Spent q
  -- who owns it owns it on, from the same queue
  pub rests : is_owned p.place ≡ true → is_none p.info.origin ≡ false → (is_owned q.place ≡ true) × (q.info.origin ≡ p.info.origin)

pub later_same : (p : Request) → Later p p
later_same p = record { owned = λ h. h; cancelable = λ h. inl h; spent = λ h. h; rests = λ own came. (own, refl) }

pub later_then : (p q r : Request) → Later p q → Later q r → Later p r
later_then p q r h k = record {
  owned = λ x. k.owned (h.owned x);
  cancelable = λ x. elim (h.cancelable x) [
    | inl y ↦ k.cancelable y
    | inr y ↦ inr (k.spent y)
  ];
  spent = λ x. k.spent (h.spent x);
  rests = λ own came. let one = h.rests own came in let two = k.rests one.0 (ap is_none one.1 ∙ came) in (two.0, two.1 ∙ one.1);
}

-- a request that nobody owns, and that isn't done
abbrev IsLoose : Request → Type 0
IsLoose q = (is_owned q.place ≡ false) × (is_done q.place ≡ false)

loose_owned : (q : Request) (b : Bool) → IsLoose q → is_owned q.place ≡ true → ⊥
loose_owned q b l h = let no = l.0 in let z : ⊥ = cc in z

pub mark_moved : (p : Place) (k : Mark) → is_marked k ≡ false → is_marked (mark_at p k) ≡ false
mark_moved place.Owned k h = h
mark_moved place.Done k h = h
mark_moved _ k h = refl

still_over : (q : Request) (p : Place) → IsLoose q → Spent q → Spent (moved p q)
still_over q p l s = record {
  off = mark_moved p q.info.mark s.off;
  over = elim s.over [
    | inl e ↦ inl e
    | inr d ↦ absurd (let no = l.1 in let z : ⊥ = cc in z)
  ];
}

loose_moves : (q : Request) (p : Place) → IsLoose q → Later q (moved p q)
loose_moves q p l = record {
  owned = λ h. absurd (loose_owned q true l h.owned);
  cancelable = λ h. absurd (loose_owned q true l h.owned);
  spent = still_over q p l;
  rests = λ own came. absurd (loose_owned q true l own);
}

unarmed_stays : (k : Mark) → is_armed k ≡ false → is_armed (mark_cancelled k) ≡ false
unarmed_stays marks.Marked h = absurd (let z : ⊥ = cc in z)
unarmed_stays marks.Due h = absurd (let z : ⊥ = cc in z)
unarmed_stays marks.Taken h = refl
unarmed_stays marks.Unmarked h = refl

pub never_marked : (k : Mark) → is_marked (mark_cancelled k) ≡ false
never_marked marks.Marked = refl
never_marked marks.Due = refl
never_marked marks.Taken = refl
never_marked marks.Unmarked = refl

cancels_later : (q : Request) → Later q (cancelled q)
cancels_later q = record {
  owned = λ h. record { owned = h.owned; off = unarmed_stays q.info.mark h.off; came = h.came };
  cancelable = λ h. inr (record { off = never_marked q.info.mark; over = inl refl });
  spent = λ h. record { off = never_marked q.info.mark; over = inl refl };
  rests = λ own came. (own, refl);
}

due_unmarked : (k : Mark) → is_due k ≡ true → (is_marked k ≡ false) × (is_armed k ≡ true)
due_unmarked marks.Marked h = absurd (let z : ⊥ = cc in z)
due_unmarked marks.Due h = (refl, refl)
due_unmarked marks.Taken h = absurd (let z : ⊥ = cc in z)
due_unmarked marks.Unmarked h = absurd (let z : ⊥ = cc in z)

taken_later : (q : Request) → is_due q.info.mark ≡ true → Later q (with_mark marks.Taken q)
taken_later q d = let is = due_unmarked q.info.mark d in record {
  owned = λ h. absurd (let no = h.off in let yes = is.1 in let z : ⊥ = cc in z);
  cancelable = λ h. absurd (let no = h.marked in let yes = is.0 in let z : ⊥ = cc in z);
  spent = λ h. record { off = refl; over = h.over };
  rests = λ own came. (own, refl);
}

unmarked_by : (q : Request) (b : Bool) → is_marked q.info.mark ≡ b → b ≡ false → Later q (if b then with_mark marks.Unmarked q else q)
unmarked_by q true e f = absurd (let z : ⊥ = cc in z)
unmarked_by q false e f = later_same q

forgotten_by : (q : Request) (b : Bool) → is_over q ≡ b → Later q (if b then no_request else q)
forgotten_by q false e = later_same q
forgotten_by q true e = record {
  owned = λ h. absurd (not_over q e h.owned h.came);
  cancelable = λ h. absurd (not_over q e h.owned h.came);
  spent = λ h. record { off = refl; over = inr refl };
  rests = λ own came. absurd (not_over q e own came);
}
  where
    not_done : (p : Place) → is_owned p ≡ true → is_done p ≡ false
    not_done place.Owned h = refl
    not_done (place.Queued q) h = refl
    not_done (place.Returning q) h = refl
    not_done (place.Closing s) h = refl
    not_done (place.Sent t) h = refl
    not_done place.Done h = absurd (let z : ⊥ = cc in z)

    not_over : (q : Request) → is_over q ≡ true → is_owned q.place ≡ true → is_none q.info.origin ≡ false → ⊥
    not_over q e h k = let d = not_done q.place h in let no : is_over q ≡ false = rw (d, h, k) refl in let z : ⊥ = cc in z

closed_by : (q : Request) (b : Bool) → (b ≡ true → IsLoose q) → Later q (if b then moved (place.Closing status.Cancelled) q else q)
closed_by q true l = loose_moves q (place.Closing status.Cancelled) (l refl)
closed_by q false l = later_same q

-- ---- all requests

-- request x, which is there, is what it was or what others made of it
pub record LaterAt (x : ℕ) (R U : Requests) : Type 0 where
  pub later : Later (request_of R x) (request_of U x)
  pub long : length R.all ≤ length U.all

pub at_same : (x : ℕ) (R U : Requests) → U ≡ R → LaterAt x R U
at_same x R U e = subst (LaterAt x R) (sym e) (record { later = later_same (request_of R x); long = omega arith })

pub at_then : (x : ℕ) (R U V : Requests) → LaterAt x R U → LaterAt x U V → LaterAt x R V
at_then x R U V h k = record { later = later_then (request_of R x) (request_of U x) (request_of V x) h.later k.later; long = let a = h.long in let b = k.long in omega arith }

one_changes : (x : ℕ) (R : Requests) (r : ℕ) (f : Request → Request) → (x ≡ r → Later (request_of R r) (f (request_of R r))) → LaterAt x R (with_request R r f)
one_changes x R r f h = record {
  later = elim (one_or_two x r) [
    | inl e ↦ subst (λ y. Later (request_of R y) (request_of (with_request R r f) y)) (sym e) (subst (λ (q : Request). Later (request_of R r) q) (sym (entry_put_same no_request R.all r (f (request_of R r)))) (h e))
    | inr n ↦ subst (λ (q : Request). Later (request_of R x) q) (sym (entry_put_other no_request R.all r x (f (request_of R r)) n)) (later_same (request_of R x))
  ];
  long = put_long no_request R.all r (f (request_of R r));
}

moves_loose : (x : ℕ) (R : Requests) (r : ℕ) (p : Place) → IsLoose (request_of R r) → LaterAt x R (requests.move_to R r p)
moves_loose x R r p l = one_changes x R r (moved p) (λ e. loose_moves (request_of R r) p l)

moves_apart : (x : ℕ) (R : Requests) (r : ℕ) (p : Place) → x ≢ r → LaterAt x R (requests.move_to R r p)
moves_apart x R r p n = one_changes x R r (moved p) (λ e. absurd (n e))

cancels_at : (x : ℕ) (R : Requests) (r : ℕ) → LaterAt x R (requests.cancel R r)
cancels_at x R r = one_changes x R r cancelled (λ e. cancels_later (request_of R r))

here_after : (R : Requests) (r : ℕ) → request_of (requests.cancel R r) r ≡ cancelled (request_of R r)
here_after R r = entry_put_same no_request R.all r (cancelled (request_of R r))

-- a request that isn't owned is cancelled in a queue
withdraws_at : (x : ℕ) (R : Requests) (r : ℕ) (p : Place) → IsLoose (request_of R r) → LaterAt x R (requests.move_to (requests.cancel R r) r p)
withdraws_at x R r p l =
    at_then x R (requests.cancel R r) (requests.move_to (requests.cancel R r) r p) (cancels_at x R r)
    (moves_loose x (requests.cancel R r) r p (subst IsLoose (sym (here_after R r)) l))

all_close : (x : ℕ) (R : Requests) (here : Place → Bool) → here place.Done ≡ false → ((p : Place) → here p ≡ true → (is_owned p ≡ false) × (is_done p ≡ false)) → LaterAt x R (record R { all = map (closed_at here) R.all })
all_close x R here off loose =
    let blank : closed_at here no_request ≡ no_request = rw off refl in
    record {
      later = subst (λ (q : Request). Later (request_of R x) q) (sym (entry_map no_request R.all (closed_at here) x blank)) (closed_by (request_of R x) (here (place_of R x)) (λ e. loose (place_of R x) e));
      long = let e = length-map R.all (closed_at here) in omega arith;
    }

forgets : (x : ℕ) (R : Requests) (r : ℕ) → LaterAt x R (requests.forget R r)
forgets x R r = record {
  later = elim (one_or_two x r) [
    | inl e ↦ subst (λ y. Later (request_of R y) (request_of (requests.forget R r) y)) (sym e)
        (subst (λ (q : Request). Later (request_of R r) q) (sym (set_read no_request forgotten R.all r refl)) (forgotten_by (request_of R r) (is_over (request_of R r)) refl))
    | inr n ↦ subst (λ (q : Request). Later (request_of R x) q) (sym (entry_set_other no_request R.all r x (forgotten (request_of R r)) n)) (later_same (request_of R x))
  ];
  long = let e = as_long R.all r (forgotten (request_of R r)) in omega arith;
}

-- a request that is new is another one
comes : (x : ℕ) (R : Requests) (r : ℕ) (p : Place) (info : RequestInfo) → length R.all ≤ r → x < length R.all → LaterAt x R (requests.arrive R r p info)
comes x R r p info new old = record {
  later = subst (λ (q : Request). Later (request_of R x) q) (sym (entry_put_other no_request R.all r x (record { place = p; info = info }) (λ e. let z : ⊥ = omega arith in z))) (later_same (request_of R x));
  long = put_long no_request R.all r (record { place = p; info = info });
}

-- ---- places

queued_loose : (q : ℕ) (p : Place) → is_queued_in q p ≡ true → (is_owned p ≡ false) × (is_done p ≡ false)
queued_loose q (place.Queued w) h = (refl, refl)
queued_loose q _ h = absurd (let z : ⊥ = cc in z)

returning_loose : (q : ℕ) (p : Place) → is_returning_to q p ≡ true → (is_owned p ≡ false) × (is_done p ≡ false)
returning_loose q (place.Returning w) h = (refl, refl)
returning_loose q _ h = absurd (let z : ⊥ = cc in z)

inside_loose : (q : ℕ) (p : Place) → is_in q p ≡ true → (is_owned p ≡ false) × (is_done p ≡ false)
inside_loose q (place.Queued w) h = (refl, refl)
inside_loose q (place.Returning w) h = (refl, refl)
inside_loose q place.Owned h = absurd (let z : ⊥ = cc in z)
inside_loose q place.Done h = absurd (let z : ⊥ = cc in z)
inside_loose q (place.Sent t) h = absurd (let z : ⊥ = cc in z)
inside_loose q (place.Closing s) h = absurd (let z : ⊥ = cc in z)

sent_loose : (p : Place) → is_sent p ≡ true → (is_owned p ≡ false) × (is_done p ≡ false)
sent_loose (place.Sent t) h = (refl, refl)
sent_loose _ h = absurd (let z : ⊥ = cc in z)

closing_loose : (p : Place) → is_closing p ≡ true → (is_owned p ≡ false) × (is_done p ≡ false)
closing_loose (place.Closing s) h = (refl, refl)
closing_loose _ h = absurd (let z : ⊥ = cc in z)

-- ---- what several deeds leave of the requests

given_by : {A : Type 0} (S T : State A) (b : Bool) → T.requests ≡ S.requests → (if b then T else S).requests ≡ S.requests
given_by S T true e = e
given_by S T false e = refl

pub given_up_if : {A : Type 0} (S : State A) (forget : Bool) (r : ℕ) → (give_up_if forget S r).requests ≡ S.requests
given_up_if S true r = given_requests S r
given_up_if S false r = refl

pub asked : {A : Type 0} (S : State A) (o : ℕ) → (ask_objects S o).requests ≡ S.requests
asked {A} S o = ap (λ (T : State A). T.requests) (asking_deletes S o).rest

-- requests that nobody owns
abbrev AllLoose : List ℕ → Requests → Type 0
AllLoose [] R = ⊤
AllLoose (r ∷ rs) R = IsLoose (request_of R r) × AllLoose rs R

-- a request that is withdrawn is loose, and the others are as they were
abbrev LooseStay : Requests → Requests → Type 0
LooseStay R U = (y : ℕ) → IsLoose (request_of R y) → IsLoose (request_of U y)

all_loose_still : (rs : List ℕ) (R U : Requests) → LooseStay R U → AllLoose rs R → AllLoose rs U
all_loose_still [] R U h l = tt
all_loose_still (r ∷ rs) R U h l = (h r l.0, all_loose_still rs R U h l.1)

changed_loose : (R : Requests) (r : ℕ) (f : Request → Request) → IsLoose (f (request_of R r)) → LooseStay R (with_request R r f)
changed_loose R r f h y l = elim (one_or_two y r) [
  | inl e ↦ subst (λ n. IsLoose (request_of (with_request R r f) n)) (sym e) (subst IsLoose (sym (entry_put_same no_request R.all r (f (request_of R r)))) h)
  | inr n ↦ subst IsLoose (sym (entry_put_other no_request R.all r y (f (request_of R r)) n)) l
]

withdrawn_loose : {A : Type 0} (plan : Plan) (S : State A) (q r : ℕ) → (is_owned (withdrawn_place plan S q r) ≡ false) × (is_done (withdrawn_place plan S q r) ≡ false)
withdrawn_loose plan S q r = elim (cases_Bool ((info_of S.requests r).received && returns_to plan S q)) [
  | inl e ↦ rw e (refl, refl)
  | inr e ↦ rw e (refl, refl)
]

all_withdrawn : {A : Type 0} (x : ℕ) (plan : Plan) (q : ℕ) (rs : List ℕ) (S : State A) → AllLoose rs S.requests → LaterAt x S.requests (fold (withdraw plan q) S rs).requests
all_withdrawn x plan q [] S l = at_same x S.requests S.requests refl
all_withdrawn {A} x plan q (r ∷ rs) S l =
    let W : State A = record S { queues = queues.take_cancelled S.queues r } in
    let p : Place = withdrawn_place plan W q r in
    let stay : LooseStay S.requests (withdraw plan q S r).requests = λ y h.
    changed_loose (requests.cancel S.requests r) r (moved p) (withdrawn_loose plan W q r) y
    (changed_loose S.requests r cancelled l.0 y h) in
    at_then x S.requests (withdraw plan q S r).requests (fold (withdraw plan q) (withdraw plan q S r) rs).requests
    (withdraws_at x S.requests r p l.0)
    (all_withdrawn x plan q rs (withdraw plan q S r) (all_loose_still rs S.requests (withdraw plan q S r).requests stay l.1))

members_loose : (ys : List ℕ) (R : Requests) → ((r : ℕ) → 1 ≤ count_by (λ y. y == r) ys → IsLoose (request_of R r)) → AllLoose ys R
members_loose [] R h = tt
members_loose (y ∷ ys) R h = (
  h y (let c = count_cons (λ z. z == y) y ys in let one : flag (y == y) ≡ 1 = ap flag (itself y) in omega arith),
  members_loose ys R (λ r more. h r (let c = count_cons (λ z. z == r) y ys in omega arith)),
)

line_loose : {A : Type 0} {F B : ℕ → Bool} (S : State A) (q : ℕ) → KeptIn F B S → AllLoose (waiting_in S.queues q) S.requests
line_loose S q k = members_loose (waiting_in S.queues q) S.requests
    (λ r more. queued_loose q (place_of S.requests r) (flagged (is_queued_in q (place_of S.requests r)) (let e = k.queued q r in omega arith)))

all_returning : {A : Type 0} (x : ℕ) (qs : List ℕ) (S : State A) → LaterAt x S.requests (fold close_returning S qs).requests
all_returning x [] S = at_same x S.requests S.requests refl
all_returning x (q ∷ qs) S = at_then x S.requests (close_returning S q).requests (fold close_returning (close_returning S q) qs).requests (all_close x S.requests (is_returning_to q) refl (returning_loose q)) (all_returning x qs (close_returning S q))

all_closed : {A : Type 0} (x : ℕ) (qs : List ℕ) (S : State A) → LaterAt x S.requests (fold close_queue S qs).requests
all_closed x [] S = at_same x S.requests S.requests refl
all_closed x (q ∷ qs) S = at_then x S.requests (close_queue S q).requests (fold close_queue (close_queue S q) qs).requests (all_close x S.requests (is_in q) refl (inside_loose q)) (all_closed x qs (close_queue S q))

-- ---- the deeds

-- the deeds by which an owner gives a request up, or changes its mark, are on another request
abbrev pub Apart : {A : Type 0} → Deed → State A → ℕ → Type 0
Apart (Requeue r q) S x = x ≢ r.0
Apart (Forward r q) S x = x ≢ r.0
Apart (GiveBack r q) S x = x ≢ r.0
Apart (MarkRequest r) S x = x ≢ r.0
Apart (UnmarkRequest r) S x = (x ≢ r.0) ⊎ (is_marked (mark_of S.requests x) ≡ false)
Apart (SendRequest r t forget) S x = x ≢ r.0
Apart (CompleteRequest r) S x = (x ≢ r.0) ⊎ (is_closing (place_of S.requests x) ≡ true)
Apart _ S x = ⊤

moves_then : (x : ℕ) (R U : Requests) (r : ℕ) (p : Place) → U ≡ R → x ≢ r → LaterAt x R (requests.move_to U r p)
moves_then x R U r p e n = subst (λ (V : Requests). LaterAt x R (requests.move_to V r p)) (sym e) (moves_apart x R r p n)

gives_back : {A : Type 0} (x : ℕ) (plan : Plan) (S : State A) (q r : ℕ) → x ≢ r → LaterAt x S.requests (requests.move_to (requests.cancel (give_up S r).requests r) r (withdrawn_place plan (give_up S r) q r))
gives_back x plan S q r n =
    subst (λ (V : Requests). LaterAt x S.requests (requests.move_to (requests.cancel V r) r (withdrawn_place plan (give_up S r) q r))) (sym (given_requests S r))
    (at_then x S.requests (requests.cancel S.requests r) _ (cancels_at x S.requests r) (moves_apart x (requests.cancel S.requests r) r _ n))

completes : {A : Type 0} (x : ℕ) (S : State A) (r : ℕ) → (x ≢ r) ⊎ (is_closing (place_of S.requests x) ≡ true) → LaterAt x S.requests (requests.move_to S.requests r place.Done)
completes x S r (inl n) = moves_apart x S.requests r place.Done n
completes x S r (inr c) = one_changes x S.requests r (moved place.Done) (λ e. loose_moves (request_of S.requests r) place.Done (closing_loose (place_of S.requests r) (subst (λ y. is_closing (place_of S.requests y) ≡ true) e c)))

unmarks : {A : Type 0} (x : ℕ) (S : State A) (r : ℕ) → (x ≢ r) ⊎ (is_marked (mark_of S.requests x) ≡ false) → LaterAt x S.requests (requests.unmark S.requests r)
unmarks x S r (inl n) = one_changes x S.requests r unmarked (λ e. absurd (n e))
unmarks x S r (inr off) = one_changes x S.requests r unmarked (λ e. unmarked_by (request_of S.requests r) (is_marked (mark_of S.requests r)) refl (subst (λ y. is_marked (mark_of S.requests y) ≡ false) e off))

pub arrives : {A : Type 0} (x : ℕ) (S : State A) (p : Place) (r : ℕ) → (enter_if_queued S p r).requests ≡ S.requests
arrives x S (place.Queued q) r = refl
arrives x S (place.Returning q) r = refl
arrives x S (place.Closing s) r = refl
arrives x S place.Owned r = refl
arrives x S (place.Sent t) r = refl
arrives x S place.Done r = refl

pub deed_later : {A : Type 0} {F B : ℕ → Bool} (plan : Plan) (d : Deed) (S : State A) (x : ℕ) → fits plan d S ≡ true → KeptIn F B S → x < length S.requests.all → Apart d S x
    → LaterAt x S.requests (do_deed plan d S).requests
deed_later plan (MakeRequest class parent) S x f k old a = comes x S.requests (next_id S.tree) place.Owned (made_info (nearest_device S.tree parent.0)) k.room old
deed_later plan (Arrive device info p) S x f k old a =
    at_then x S.requests (requests.arrive S.requests (next_id S.tree) p info) _ (comes x S.requests (next_id S.tree) p info k.room old)
    (at_same x (requests.arrive S.requests (next_id S.tree) p info) _ (arrives x (record S { tree = tree.arrive S.tree device.0; requests = requests.arrive S.requests (next_id S.tree) p info }) p (next_id S.tree)))
deed_later plan (AskDeletion o) S x f k old a = at_same x S.requests _ (asked S o.0)
deed_later plan (EndLife o) S x f k old a = forgets x S.requests o.0
deed_later plan (Present q r) S x f k old a = moves_loose x S.requests r.0 place.Owned (queued_loose q.0 (place_of S.requests r.0) (front_queued q.0 r.0 k f))
deed_later plan (Receive q r) S x f k old a = moves_loose x S.requests r.0 place.Owned (returning_loose q.0 (place_of S.requests r.0) f)
deed_later plan (Requeue r q) S x f k old a = moves_then x S.requests (give_up S r.0).requests r.0 (queued q.0) (given_requests S r.0) a
deed_later plan (Forward r q) S x f k old a = moves_then x S.requests (give_up S r.0).requests r.0 (queued q.0) (given_requests S r.0) a
deed_later plan (GiveBack r q) S x f k old a = gives_back x plan S q.0 r.0 a
deed_later plan (Withdraw q r) S x f k old a = withdraws_at x S.requests r.0 _ (queued_loose q.0 (place_of S.requests r.0) f)
deed_later plan (MarkRequest r) S x f k old a = one_changes x S.requests r.0 requests.marked (λ e. absurd (a e))
deed_later plan (UnmarkRequest r) S x f k old a = unmarks x S r.0 a
deed_later plan (CancelRequest r) S x f k old a = cancels_at x S.requests r.0
deed_later plan (TakeCancel r) S x f k old a = one_changes x S.requests r.0 (with_mark marks.Taken) (λ e. taken_later (request_of S.requests r.0) (both_left (is_due (mark_of S.requests r.0)) (is_with_driver S r.0) f))
deed_later plan (SendRequest r t forget) S x f k old a = moves_then x S.requests (give_up_if forget S r.0).requests r.0 (place.Sent (record { 0 = t.0 })) (given_up_if S forget r.0) a
deed_later plan (FinishSending r s) S x f k old a = moves_loose x S.requests r.0 _ (sent_loose (place_of S.requests r.0) (both_left (is_sent (place_of S.requests r.0)) (is_undone S.targets r.0) f))
deed_later plan (ComeBack r) S x f k old a = moves_loose x S.requests r.0 place.Owned (sent_loose (place_of S.requests r.0) (both_left (is_sent (place_of S.requests r.0)) (is_some (routine_due S.targets r.0)) f))
deed_later plan (CompleteRequest r) S x f k old a =
    at_then x S.requests (requests.move_to S.requests r.0 place.Done) _ (completes x S r.0 a)
    (at_same x (requests.move_to S.requests r.0 place.Done) _ (asked (record (give_up S r.0) { requests = requests.complete S.requests r.0 }) r.0))
deed_later plan (PurgeQueue q) S x f k old a = all_withdrawn x plan q.0 (waiting_in S.queues q.0) (record S { control = control.set_mode S.control q.0 mode.Purged }) (line_loose S q.0 k)
deed_later plan (CloseReturning d) S x f k old a = all_returning x (managed_queues plan d.0) S
deed_later plan (CloseDevice d) S x f k old a = all_closed x (queues_of plan d.0) (record S { control = control.shut S.control d.0 })
deed_later plan _ S x f k old a = at_same x S.requests S.requests refl
