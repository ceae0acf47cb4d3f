-- A request that arrived is done by its completion alone.
use Rattle.std.proofs.Common.{if◌then◌else◌, ◌≡◌, ◌≢◌, ℕ, Bool, true, false, ◌&&◌, List, [], ◌∷◌, inl, inr, fold, map, refl, sym, ap, subst, ◌∙◌}
use Rattle.wdf_base.specs.declared.plan.Plan.{Plan}
use Rattle.wdf_base.specs.declared.object.Mark.TheVariants as marks
use Rattle.wdf_base.specs.declared.object.Place.{Place}
use Rattle.wdf_base.specs.declared.object.Place.TheVariants as place
use Rattle.wdf_base.specs.declared.object.RequestInfo.{RequestInfo}
use Rattle.wdf_base.specs.declared.value.Status.TheVariants as status
use Rattle.wdf_base.specs.declared.event.Event.{Event}
use Rattle.wdf_base.specs.Places.{is_done, is_marked, is_returning_to}
use Rattle.wdf_model.specs.declared.enums.Mode.TheVariants as mode
use Rattle.wdf_model.specs.declared.entries.Request.{Request}
use Rattle.wdf_model.specs.Plans.{managed_queues, queues_of}
use Rattle.wdf_model.specs.parts.Tree.{nearest_device, next_id, subtree}
use Rattle.wdf_model.specs.parts.Requests.{Requests, cancelled, closed_at, forgotten, has_arrived, info_of, is_in, is_over, made_info, marked, moved, no_request, place_of, request_of, unmarked, with_mark, with_request}
use Rattle.wdf_model.specs.parts.Requests as requests
use Rattle.wdf_model.specs.parts.Queues.{waiting_in}
use Rattle.wdf_model.specs.parts.Queues as queues
use Rattle.wdf_model.specs.parts.Control as control
use Rattle.wdf_model.specs.parts.Targets.{is_forgotten}
use Rattle.wdf_model.specs.State.{State, returns_to, withdrawn_place}
use Rattle.wdf_model.specs.declared.deed.Deed.{Deed}
use Rattle.wdf_model.specs.declared.deed.Deed.TheVariants.{MakeRequest, Arrive, AskDeletion, EndLife, Present, Receive, Requeue, Forward, GiveBack, Withdraw, MarkRequest, UnmarkRequest, CancelRequest, TakeCancel, SendRequest, FinishSending, ComeBack, CompleteRequest, PurgeQueue, CloseReturning, CloseDevice}
use Rattle.wdf_model.specs.rules.Deeds.{cancel_in, close_queue, close_returning, do_deed, do_deeds, finished_at, give_up, give_up_if, queued, withdraw}
use Rattle.law_machine_base.specs.Fits.{all_fit, fits, is_arrival_place}
use Rattle.wdf_model.proofs.Tests.{both_left, both_right}
use Rattle.wdf_model.proofs.Maps.{entry_map, entry_put_other, entry_put_same, entry_set_other, set_read}
use Rattle.wdf_model.proofs.Counts.{one_or_two}
use Rattle.law_machine_lives.proofs.Lists.{Each}
use Rattle.law_machine_lives.proofs.Stays.{asks_all, given, given_if}
use Rattle.std.specs.List.{list_all}
use Rattle.law_machine_deeds.specs.MayDo.{completing, may_do}
use Rattle.law_machine_lives.proofs.Readers.{requests_of}
use Rattle.law_machine_counts.proofs.Arrived.{arrived_requests}
use Rattle.law_machine_counts.proofs.Undone.{finished_undone}

-- a request that arrived is done
abbrev pub is_finished_request : Request → Bool
is_finished_request q = has_arrived q && is_done q.place

abbrev pub finished : Requests → ℕ → Bool
finished R x = is_finished_request (request_of R x)

-- what is finished was so before
abbrev pub WasFinished : Requests → Requests → Type 0
WasFinished R U = (x : ℕ) → finished U x ≡ true → finished R x ≡ true

same_requests : (R U : Requests) → U ≡ R → WasFinished R U
same_requests R U e x h = ap (λ (V : Requests). finished V x) (sym e) ∙ h

was_then : (R U V : Requests) → WasFinished R U → WasFinished U V → WasFinished R V
was_then R U V a b x h = a x (b x h)

-- ---- one request changes

changed : (R : Requests) (r : ℕ) (f : Request → Request) → (is_finished_request (f (request_of R r)) ≡ true → finished R r ≡ true) → WasFinished R (with_request R r f)
changed R r f here x h = elim (one_or_two x r) [
  | inl e ↦
      let at : finished (with_request R r f) r ≡ true = subst (λ y. finished (with_request R r f) y ≡ true) e h in
      subst (λ y. finished R y ≡ true) (sym e) (here (sym (ap is_finished_request (entry_put_same no_request R.all r (f (request_of R r)))) ∙ at))
  | inr n ↦ sym (ap is_finished_request (entry_put_other no_request R.all r x (f (request_of R r)) n)) ∙ h
]

undone : (q : Request) → is_done q.place ≡ false → is_finished_request q ≡ true → ⊥
undone q off h = let on_ : is_done q.place ≡ true = both_right (has_arrived q) (is_done q.place) h in let z : ⊥ = cc in z

moved_to : (R : Requests) (r : ℕ) (p : Place) → is_done p ≡ false → WasFinished R (requests.move_to R r p)
moved_to R r p off = changed R r (moved p) (λ h. absurd (undone (moved p (request_of R r)) off h))

put_in : (R : Requests) (r : ℕ) (p : Place) (info : RequestInfo) → is_done p ≡ false → WasFinished R (requests.arrive R r p info)
put_in R r p info off x h = elim (one_or_two x r) [
  | inl e ↦ absurd (
      let at : finished (requests.arrive R r p info) r ≡ true = subst (λ y. finished (requests.arrive R r p info) y ≡ true) e h in
      undone (record { place = p; info = info }) off (sym (ap is_finished_request (entry_put_same no_request R.all r (record { place = p; info = info }))) ∙ at))
  | inr n ↦ sym (ap is_finished_request (entry_put_other no_request R.all r x (record { place = p; info = info }) n)) ∙ h
]

marked_same : (q : Request) (b : Bool) → q.info.cancelled ≡ b → is_finished_request (marked q) ≡ is_finished_request q
marked_same q true e = rw e refl
marked_same q false e = rw e refl

unmarked_same : (q : Request) (b : Bool) → is_marked q.info.mark ≡ b → is_finished_request (unmarked q) ≡ is_finished_request q
unmarked_same q true e = rw e refl
unmarked_same q false e = rw e refl

withdrawn : {A : Type 0} (plan : Plan) (S : State A) (q r : ℕ) (b : Bool) → is_done (if b then place.Returning (record { 0 = q }) else place.Closing status.Cancelled) ≡ false
withdrawn plan S q r true = refl
withdrawn plan S q r false = refl

cancelled_in : {A : Type 0} (plan : Plan) (S : State A) (q r : ℕ) → WasFinished S.requests (cancel_in plan S q r).requests
cancelled_in plan S q r =
    was_then S.requests (requests.cancel S.requests r) (cancel_in plan S q r).requests (changed S.requests r cancelled (λ h. h))
    (moved_to (requests.cancel S.requests r) r (withdrawn_place plan S q r) (withdrawn plan S q r ((info_of S.requests r).received && returns_to plan S q)))

all_withdrawn : {A : Type 0} (plan : Plan) (q : ℕ) (rs : List ℕ) (S : State A) → WasFinished S.requests (fold (withdraw plan q) S rs).requests
all_withdrawn plan q [] S = λ x h. h
all_withdrawn plan q (r ∷ rs) S = was_then S.requests (withdraw plan q S r).requests (fold (withdraw plan q) (withdraw plan q S r) rs).requests (cancelled_in plan (record S { queues = queues.take_cancelled S.queues r }) q r) (all_withdrawn plan q rs (withdraw plan q S r))

-- ---- several requests are closed

closed_one : (here : Place → Bool) (q : Request) (b : Bool) → here q.place ≡ b → is_finished_request (closed_at here q) ≡ true → is_finished_request q ≡ true
closed_one here q true e h = absurd (undone (moved (place.Closing status.Cancelled) q) refl (subst (λ c. is_finished_request (if c then moved (place.Closing status.Cancelled) q else q) ≡ true) e h))
closed_one here q false e h = subst (λ c. is_finished_request (if c then moved (place.Closing status.Cancelled) q else q) ≡ true) e h

closed_all : (here : Place → Bool) (R : Requests) → here place.Done ≡ false → WasFinished R (record R { all = map (closed_at here) R.all })
closed_all here R off x h =
    let blank : closed_at here no_request ≡ no_request = rw off refl in
    closed_one here (request_of R x) (here (place_of R x)) refl (sym (ap is_finished_request (entry_map no_request R.all (closed_at here) x blank)) ∙ h)

all_returning : {A : Type 0} (qs : List ℕ) (S : State A) → WasFinished S.requests (fold close_returning S qs).requests
all_returning [] S = λ x h. h
all_returning (q ∷ qs) S = was_then S.requests (close_returning S q).requests (fold close_returning (close_returning S q) qs).requests (closed_all (is_returning_to q) S.requests refl) (all_returning qs (close_returning S q))

all_closed : {A : Type 0} (qs : List ℕ) (S : State A) → WasFinished S.requests (fold close_queue S qs).requests
all_closed [] S = λ x h. h
all_closed (q ∷ qs) S = was_then S.requests (close_queue S q).requests (fold close_queue (close_queue S q) qs).requests (closed_all (is_in q) S.requests refl) (all_closed qs (close_queue S q))

-- ---- a request is forgotten

forgotten_one : (q : Request) (b : Bool) → is_over q ≡ b → is_finished_request (forgotten q) ≡ true → is_finished_request q ≡ true
forgotten_one q true e h = absurd (let k : is_finished_request (if true then no_request else q) ≡ true = subst (λ c. is_finished_request (if c then no_request else q) ≡ true) e h in let z : ⊥ = cc in z)
forgotten_one q false e h = subst (λ c. is_finished_request (if c then no_request else q) ≡ true) e h

forgets : (R : Requests) (r : ℕ) → WasFinished R (requests.forget R r)
forgets R r x h = elim (one_or_two x r) [
  | inl e ↦
      let at : finished (requests.forget R r) r ≡ true = subst (λ y. finished (requests.forget R r) y ≡ true) e h in
      subst (λ y. finished R y ≡ true) (sym e) (forgotten_one (request_of R r) (is_over (request_of R r)) refl (sym (ap is_finished_request (set_read no_request forgotten R.all r refl)) ∙ at))
  | inr n ↦ sym (ap is_finished_request (entry_set_other no_request R.all r x (forgotten (request_of R r)) n)) ∙ h
]

-- ---- each deed but a completion

arrival_undone : (p : Place) → is_arrival_place p ≡ true → is_done p ≡ false
arrival_undone place.Done h = absurd (let z : ⊥ = cc in z)
arrival_undone _ h = refl

-- the request that a deed completes
abbrev pub Completes : Deed → ℕ → Type 0
Completes (CompleteRequest r) x = x ≡ r.0
Completes _ x = ⊥

given_then : {A : Type 0} (S : State A) (r : ℕ) (U : Requests) → WasFinished (give_up S r).requests U → WasFinished S.requests U
given_then {A} S r U h = was_then S.requests (give_up S r).requests U (same_requests S.requests (give_up S r).requests (given requests_of (λ S Q P. refl) S r)) h

pub completed_one : (R : Requests) (r x : ℕ) → x ≢ r → finished (requests.complete R r) x ≡ true → finished R x ≡ true
completed_one R r x n h = sym (ap is_finished_request (entry_put_other no_request R.all r x (moved place.Done (request_of R r)) n)) ∙ h

pub deed_finishes : {A : Type 0} (plan : Plan) (d : Deed) (S : State A) → fits plan d S ≡ true → (x : ℕ) → (Completes d x → ⊥) → finished (do_deed plan d S).requests x ≡ true → finished S.requests x ≡ true
deed_finishes plan (MakeRequest class parent) S f x n h = put_in S.requests (next_id S.tree) place.Owned (made_info (nearest_device S.tree parent.0)) refl x h
deed_finishes plan (Arrive device info p) S f x n h =
    put_in S.requests (next_id S.tree) p info (arrival_undone p (search both_right)) x (sym (ap (λ (R : Requests). finished R x) (arrived_requests S device.0 info p)) ∙ h)
deed_finishes plan (AskDeletion o) S f x n h = same_requests S.requests (do_deed plan (AskDeletion o) S).requests (asks_all requests_of (λ S T D W U. refl) (subtree S.tree o.0) S) x h
deed_finishes plan (EndLife o) S f x n h = forgets S.requests o.0 x h
deed_finishes plan (Present q r) S f x n h = moved_to S.requests r.0 place.Owned refl x h
deed_finishes plan (Receive q r) S f x n h = moved_to S.requests r.0 place.Owned refl x h
deed_finishes plan (Requeue r q) S f x n h = given_then S r.0 (do_deed plan (Requeue r q) S).requests (moved_to (give_up S r.0).requests r.0 (queued q.0) refl) x h
deed_finishes plan (Forward r q) S f x n h = given_then S r.0 (do_deed plan (Forward r q) S).requests (moved_to (give_up S r.0).requests r.0 (queued q.0) refl) x h
deed_finishes plan (GiveBack r q) S f x n h = given_then S r.0 (do_deed plan (GiveBack r q) S).requests (cancelled_in plan (give_up S r.0) q.0 r.0) x h
deed_finishes plan (Withdraw q r) S f x n h = cancelled_in plan (record S { queues = queues.take_cancelled S.queues r.0 }) q.0 r.0 x h
deed_finishes plan (MarkRequest r) S f x n h = changed S.requests r.0 marked (λ k. sym (marked_same (request_of S.requests r.0) (request_of S.requests r.0).info.cancelled refl) ∙ k) x h
deed_finishes plan (UnmarkRequest r) S f x n h = changed S.requests r.0 unmarked (λ k. sym (unmarked_same (request_of S.requests r.0) (is_marked (request_of S.requests r.0).info.mark) refl) ∙ k) x h
deed_finishes plan (CancelRequest r) S f x n h = changed S.requests r.0 cancelled (λ k. k) x h
deed_finishes plan (TakeCancel r) S f x n h = changed S.requests r.0 (with_mark marks.Taken) (λ k. k) x h
deed_finishes plan (SendRequest r t forget) S f x n h =
    was_then S.requests (give_up_if forget S r.0).requests (do_deed plan (SendRequest r t forget) S).requests (same_requests S.requests (give_up_if forget S r.0).requests (given_if requests_of (λ S Q P. refl) S forget r.0))
    (moved_to (give_up_if forget S r.0).requests r.0 (place.Sent (record { 0 = t.0 })) refl) x h
deed_finishes plan (FinishSending r s) S f x n h = moved_to S.requests r.0 (finished_at (is_forgotten S.targets r.0) s (place_of S.requests r.0)) (finished_undone (is_forgotten S.targets r.0) s (place_of S.requests r.0) (search both_left)) x h
deed_finishes plan (ComeBack r) S f x n h = moved_to S.requests r.0 place.Owned refl x h
deed_finishes {A} plan (CompleteRequest r) S f x n h =
    let U : State A = record (give_up S r.0) { requests = requests.complete S.requests r.0 } in
    completed_one S.requests r.0 x n (same_requests U.requests (do_deed plan (CompleteRequest r) S).requests (asks_all requests_of (λ S T D W U. refl) (subtree (give_up S r.0).tree r.0) U) x h)
deed_finishes plan (PurgeQueue q) S f x n h = all_withdrawn plan q.0 (waiting_in S.queues q.0) (record S { control = control.set_mode S.control q.0 mode.Purged }) x h
deed_finishes plan (CloseReturning d) S f x n h = all_returning (managed_queues plan d.0) S x h
deed_finishes plan (CloseDevice d) S f x n h = all_closed (queues_of plan d.0) (record S { control = control.shut S.control d.0 }) x h
deed_finishes plan _ S f x n h = h

-- none of some deeds completes a request
abbrev pub NoneComplete : ℕ → List Deed → Type 0
NoneComplete x ds = Each (λ d. Completes d x → ⊥) ds

pub deeds_finish : {A : Type 0} (plan : Plan) (x : ℕ) (ds : List Deed) (S : State A) → all_fit plan ds S ≡ true → NoneComplete x ds → finished (do_deeds plan ds S).requests x ≡ true → finished S.requests x ≡ true
deeds_finish plan x [] S f n h = h
deeds_finish plan x (d ∷ ds) S f n h =
    deed_finishes plan d S (both_left (fits plan d S) (all_fit plan ds (do_deed plan d S)) f) x n.0
    (deeds_finish plan x ds (do_deed plan d S) (both_right (fits plan d S) (all_fit plan ds (do_deed plan d S)) f) n.1 h)

-- the deeds of an event that completes nothing
not_this : (e : Event) (d : Deed) (x : ℕ) → completing e ≡ false → may_do e d ≡ true → Completes d x → ⊥
not_this e (CompleteRequest r) x off h at = let z : ⊥ = cc in z
not_this e _ x off h at = at

pub none_complete : (e : Event) (ds : List Deed) (x : ℕ) → completing e ≡ false → list_all (may_do e) ds ≡ true → NoneComplete x ds
none_complete e [] x off h = tt
none_complete e (d ∷ ds) x off h = (not_this e d x off (both_left (may_do e d) (list_all (may_do e) ds) h), none_complete e ds x off (both_right (may_do e d) (list_all (may_do e) ds) h))
