-- What a deed leaves of requests that arrived: each keeps its device, its agent and its number, but one that is made again or is gone.
use Rattle.std.proofs.Common.{if◌then◌else◌, ◌≡◌, ℕ, Bool, true, false, List, [], ◌∷◌, ◌⊎◌, inl, inr, fold, map, refl, sym, ap, subst, ◌∙◌}
use Rattle.wdf_base.specs.declared.plan.Plan.{Plan}
use Rattle.wdf_base.specs.declared.object.Mark.TheVariants as marks
use Rattle.wdf_base.specs.declared.object.Place.{Place}
use Rattle.wdf_base.specs.declared.object.Place.TheVariants as place
use Rattle.wdf_base.specs.declared.value.Status.TheVariants as status
use Rattle.wdf_base.specs.Places.{is_marked, is_returning_to}
use Rattle.wdf_model.specs.declared.enums.Mode.TheVariants as mode
use Rattle.wdf_model.specs.declared.entries.Request.{Request}
use Rattle.wdf_model.specs.Plans.{managed_queues, queues_of}
use Rattle.wdf_model.specs.parts.Tree.{nearest_device, next_id, subtree}
use Rattle.wdf_model.specs.parts.Control as control
use Rattle.wdf_model.specs.parts.Queues.{waiting_in}
use Rattle.wdf_model.specs.parts.Requests.{Requests, cancelled, closed_at, forgotten, info_of, is_in, is_over, made_info, marked, moved, no_request, place_of, request_of, unmarked, with_mark, with_request}
use Rattle.wdf_model.specs.parts.Requests as requests
use Rattle.wdf_model.specs.parts.Targets.{is_forgotten}
use Rattle.wdf_model.specs.State.{State, withdrawn_place}
use Rattle.wdf_model.specs.declared.deed.Deed.{Deed}
use Rattle.wdf_model.specs.declared.deed.Deed.TheVariants.{Arrive, AskDeletion, CancelRequest, CloseDevice, CloseReturning, ComeBack, CompleteRequest, EndLife, FinishSending, Forward, GiveBack, MakeRequest, MarkRequest, Present, PurgeQueue, Receive, Requeue, SendRequest, TakeCancel, UnmarkRequest, Withdraw}
use Rattle.wdf_model.specs.rules.Deeds.{close_queue, close_returning, do_deed, finished_at, give_up, queued, withdraw}
use Rattle.wdf_model.proofs.Maps.{entry_map, entry_put_other, entry_put_same, entry_set_other, set_read}
use Rattle.wdf_model.proofs.Counts.{one_or_two}
use Rattle.law_machine_base.proofs.KeptByDeeds.{is_arrival}
use Rattle.law_machine_lives.proofs.Stays.{asks_all, given, given_if}
use Rattle.law_machine_lives.proofs.Readers.{requests_of}

abbrev pub arrival_in : Requests → ℕ → ℕ
arrival_in R r = (info_of R r).arrival

-- a request keeps what isn't its place, its mark or whether it is cancelled
pub record IsKept (p q : Request) : Type 0 where
  pub device : q.info.device.0 ≡ p.info.device.0
  pub agent : q.info.agent ≡ p.info.agent
  pub arrival : q.info.arrival ≡ p.info.arrival

itself_kept : (q : Request) → IsKept q q
itself_kept q = record { device = refl; agent = refl; arrival = refl }

-- each request keeps that, or didn't arrive
abbrev pub ArrivedStay : Requests → Requests → Type 0
ArrivedStay R U = (x : ℕ) → IsKept (request_of R x) (request_of U x) ⊎ (arrival_in U x ≡ 0)

abbrev AllKept : Requests → Requests → Type 0
AllKept R U = (x : ℕ) → IsKept (request_of R x) (request_of U x)

kept_stays : (R U : Requests) → AllKept R U → ArrivedStay R U
kept_stays R U k x = inl (k x)

all_same : (R U : Requests) → U ≡ R → AllKept R U
all_same R U e = subst (AllKept R) (sym e) (λ x. itself_kept _)

all_then : (R U V : Requests) → AllKept R U → AllKept U V → AllKept R V
all_then R U V a b x = record { device = (b x).device ∙ (a x).device; agent = (b x).agent ∙ (a x).agent; arrival = (b x).arrival ∙ (a x).arrival }

one_changes : (R : Requests) (r : ℕ) (f : Request → Request) → IsKept (request_of R r) (f (request_of R r)) → AllKept R (with_request R r f)
one_changes R r f k x = elim (one_or_two x r) [
  | inl e ↦ rw e (subst (IsKept (request_of R r)) (sym (entry_put_same no_request R.all r (f (request_of R r)))) k)
  | inr n ↦ subst (IsKept (request_of R x)) (sym (entry_put_other no_request R.all r x (f (request_of R r)) n)) (itself_kept _)
]

moves : (R : Requests) (r : ℕ) (p : Place) → AllKept R (requests.move_to R r p)
moves R r p = one_changes R r (moved p) (record { device = refl; agent = refl; arrival = refl })

cancels : (R : Requests) (r : ℕ) → AllKept R (requests.cancel R r)
cancels R r = one_changes R r cancelled (record { device = refl; agent = refl; arrival = refl })

either_kept : (b : Bool) (p q : Request) → IsKept q p → IsKept q (if b then q else p)
either_kept true p q h = itself_kept _
either_kept false p q h = h

or_kept : (b : Bool) (p q : Request) → IsKept q p → IsKept q (if b then p else q)
or_kept true p q h = h
or_kept false p q h = itself_kept _

all_close : (R : Requests) (here : Place → Bool) → here place.Done ≡ false → AllKept R (record R { all = map (closed_at here) R.all })
all_close R here off x =
    let blank : closed_at here no_request ≡ no_request = rw off refl in
    let same : request_of (record R { all = map (closed_at here) R.all }) x ≡ closed_at here (request_of R x) = entry_map no_request R.all (closed_at here) x blank in
    subst (IsKept (request_of R x)) (sym same) (or_kept (here (place_of R x)) (moved (place.Closing status.Cancelled) (request_of R x)) (request_of R x) (record { device = refl; agent = refl; arrival = refl }))

forgotten_by : (q : Request) (b : Bool) → IsKept q (if b then no_request else q) ⊎ ((if b then no_request else q).info.arrival ≡ 0)
forgotten_by q true = inr refl
forgotten_by q false = inl (itself_kept q)

-- it is as it was where another one was written
kept_elsewhere : (R U : Requests) (x : ℕ) → request_of U x ≡ request_of R x → IsKept (request_of R x) (request_of U x)
kept_elsewhere R U x e = subst (IsKept (request_of R x)) (sym e) (itself_kept (request_of R x))

forgets : (R : Requests) (r : ℕ) → ArrivedStay R (requests.forget R r)
forgets R r x = elim (one_or_two x r) [
  | inl e ↦
      let here : request_of (requests.forget R r) r ≡ forgotten (request_of R r) = set_read no_request forgotten R.all r refl in
      rw e (subst (λ (q : Request). IsKept (request_of R r) q ⊎ (q.info.arrival ≡ 0)) (sym here) (forgotten_by (request_of R r) (is_over (request_of R r))))
  | inr n ↦ inl (kept_elsewhere R (requests.forget R r) x (entry_set_other no_request R.all r x (forgotten (request_of R r)) n))
]

makes : (R : Requests) (r device : ℕ) → ArrivedStay R (requests.arrive R r place.Owned (made_info device))
makes R r device x = elim (one_or_two x r) [
  | inl e ↦ rw e (inr (ap (λ (q : Request). q.info.arrival) (entry_put_same no_request R.all r (record { place = place.Owned; info = made_info device }))))
  | inr n ↦ inl (kept_elsewhere R (requests.arrive R r place.Owned (made_info device)) x (entry_put_other no_request R.all r x (record { place = place.Owned; info = made_info device }) n))
]

then_moves : (R U : Requests) (r : ℕ) (p : Place) → U ≡ R → AllKept R (requests.move_to U r p)
then_moves R U r p e = all_then R U (requests.move_to U r p) (all_same R U e) (moves U r p)

then_cancels : (R U : Requests) (r : ℕ) (p : Place) → U ≡ R → AllKept R (requests.move_to (requests.cancel U r) r p)
then_cancels R U r p e = all_then R U (requests.move_to (requests.cancel U r) r p) (all_same R U e) (all_then U (requests.cancel U r) (requests.move_to (requests.cancel U r) r p) (cancels U r) (moves (requests.cancel U r) r p))

all_withdrawn : {A : Type 0} (plan : Plan) (q : ℕ) (rs : List ℕ) (S : State A) → AllKept S.requests (fold (withdraw plan q) S rs).requests
all_withdrawn plan q [] S = λ x. itself_kept _
all_withdrawn plan q (r ∷ rs) S = all_then S.requests (withdraw plan q S r).requests (fold (withdraw plan q) (withdraw plan q S r) rs).requests (then_cancels S.requests S.requests r _ refl) (all_withdrawn plan q rs (withdraw plan q S r))

all_returning : {A : Type 0} (qs : List ℕ) (S : State A) → AllKept S.requests (fold close_returning S qs).requests
all_returning [] S = λ x. itself_kept _
all_returning (q ∷ qs) S = all_then S.requests (close_returning S q).requests (fold close_returning (close_returning S q) qs).requests (all_close S.requests (is_returning_to q) refl) (all_returning qs (close_returning S q))

all_closed : {A : Type 0} (qs : List ℕ) (S : State A) → AllKept S.requests (fold close_queue S qs).requests
all_closed [] S = λ x. itself_kept _
all_closed (q ∷ qs) S = all_then S.requests (close_queue S q).requests (fold close_queue (close_queue S q) qs).requests (all_close S.requests (is_in q) refl) (all_closed qs (close_queue S q))

-- a request is made or arrives, or is gone
abbrev begins_or_ends : Deed → Bool
begins_or_ends (Arrive device info p) = true
begins_or_ends (MakeRequest class parent) = true
begins_or_ends (EndLife o) = true
begins_or_ends _ = false

all_kept : {A : Type 0} (plan : Plan) (d : Deed) (S : State A) → begins_or_ends d ≡ false → AllKept S.requests (do_deed plan d S).requests
all_kept plan (Arrive device info p) S h = absurd (let z : ⊥ = cc in z)
all_kept plan (MakeRequest class parent) S h = absurd (let z : ⊥ = cc in z)
all_kept plan (AskDeletion o) S h = all_same _ _ (asks_all requests_of (λ S T D W U. refl) (subtree S.tree o.0) S)
all_kept plan (EndLife o) S h = absurd (let z : ⊥ = cc in z)
all_kept plan (Present q r) S h = moves S.requests r.0 place.Owned
all_kept plan (Receive q r) S h = moves S.requests r.0 place.Owned
all_kept plan (Requeue r q) S h = then_moves _ _ r.0 (queued q.0) (given requests_of (λ S Q P. refl) S r.0)
all_kept plan (Forward r q) S h = then_moves _ _ r.0 (queued q.0) (given requests_of (λ S Q P. refl) S r.0)
all_kept plan (GiveBack r q) S h = then_cancels _ _ r.0 (withdrawn_place plan (give_up S r.0) q.0 r.0) (given requests_of (λ S Q P. refl) S r.0)
all_kept plan (Withdraw q r) S h = then_cancels S.requests S.requests r.0 (withdrawn_place plan S q.0 r.0) refl
all_kept plan (MarkRequest r) S h =
    one_changes S.requests r.0 marked (either_kept (request_of S.requests r.0).info.cancelled (with_mark marks.Marked (request_of S.requests r.0)) (request_of S.requests r.0) (record { device = refl; agent = refl; arrival = refl }))
all_kept plan (UnmarkRequest r) S h =
    one_changes S.requests r.0 unmarked (or_kept (is_marked (request_of S.requests r.0).info.mark) (with_mark marks.Unmarked (request_of S.requests r.0)) (request_of S.requests r.0) (record { device = refl; agent = refl; arrival = refl }))
all_kept plan (CancelRequest r) S h = cancels S.requests r.0
all_kept plan (TakeCancel r) S h = one_changes S.requests r.0 (with_mark marks.Taken) (record { device = refl; agent = refl; arrival = refl })
all_kept plan (SendRequest r t forget) S h = then_moves _ _ r.0 (place.Sent (record { 0 = t.0 })) (given_if requests_of (λ S Q P. refl) S forget r.0)
all_kept plan (FinishSending r s) S h = moves S.requests r.0 (finished_at (is_forgotten S.targets r.0) s (place_of S.requests r.0))
all_kept plan (ComeBack r) S h = moves S.requests r.0 place.Owned
all_kept plan (CompleteRequest r) S h =
    all_then S.requests (requests.complete S.requests r.0) (do_deed plan (CompleteRequest r) S).requests (moves S.requests r.0 place.Done)
    (all_same (requests.complete S.requests r.0) (do_deed plan (CompleteRequest r) S).requests (asks_all requests_of (λ S T D W U. refl) (subtree (give_up S r.0).tree r.0) (record (give_up S r.0) { requests = requests.complete S.requests r.0 })))
all_kept plan (PurgeQueue q) S h = all_withdrawn plan q.0 (waiting_in S.queues q.0) (record S { control = control.set_mode S.control q.0 mode.Purged })
all_kept plan (CloseReturning d) S h = all_returning (managed_queues plan d.0) S
all_kept plan (CloseDevice d) S h = all_closed (queues_of plan d.0) (record S { control = control.shut S.control d.0 })
all_kept plan _ S h = λ x. itself_kept _

pub arrived_stay : {A : Type 0} (plan : Plan) (d : Deed) (S : State A) → is_arrival d ≡ false → ArrivedStay S.requests (do_deed plan d S).requests
arrived_stay plan (Arrive device info p) S h = absurd (let z : ⊥ = cc in z)
arrived_stay plan (MakeRequest class parent) S h = makes S.requests (next_id S.tree) (nearest_device S.tree parent.0)
arrived_stay plan (EndLife o) S h = forgets S.requests o.0
arrived_stay plan d S h = kept_stays S.requests (do_deed plan d S).requests (all_kept plan d S refl)
