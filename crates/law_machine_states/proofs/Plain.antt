-- A request that is marked is owned and isn't cancelled, at each place of every run.
use Rattle.std.proofs.Common.{if◌then◌else◌, ◌≡◌, ℕ, Bool, true, false, not, List, [], ◌∷◌, inl, inr, map, fold, take, refl, sym, subst}
use Rattle.std.proofs.lemmas.Bool.{cases_Bool}
use Rattle.wdf_base.specs.Meaning.{Meaning}
use Rattle.wdf_base.specs.declared.plan.Plan.{Plan}
use Rattle.wdf_base.specs.declared.event.Event.{Event}
use Rattle.wdf_base.specs.declared.event.Event.TheVariants as event
use Rattle.wdf_base.specs.declared.event.Post.TheVariants as post
use Rattle.wdf_base.specs.declared.value.Status.TheVariants as status
use Rattle.wdf_base.specs.declared.object.Mark.{Mark}
use Rattle.wdf_base.specs.declared.object.Mark.TheVariants as marks
use Rattle.wdf_base.specs.declared.object.Place.{Place}
use Rattle.wdf_base.specs.declared.object.Place.TheVariants as place
use Rattle.wdf_base.specs.declared.object.RequestForm.{RequestForm}
use Rattle.wdf_base.specs.declared.object.RequestForm.TheVariants as form
use Rattle.wdf_base.specs.declared.object.RequestInfo.{RequestInfo}
use Rattle.wdf_base.specs.Lives.{is_live}
use Rattle.wdf_base.specs.Places.{is_due, is_marked, is_returning_to}
use Rattle.wdf_model.specs.declared.enums.Mode.TheVariants as mode
use Rattle.wdf_model.specs.declared.entries.Request.{Request}
use Rattle.wdf_model.specs.Plans.{managed_queues, queues_of}
use Rattle.wdf_model.specs.parts.Tree.{life_of, nearest_device, next_id, subtree}
use Rattle.wdf_model.specs.parts.Requests.{Requests, cancelled, closed_at, forgotten, is_in, is_over, made_info, mark_cancelled, mark_of, marked, moved, no_request, place_of, request_of, unmarked, with_mark, with_request}
use Rattle.wdf_model.specs.parts.Requests as requests
use Rattle.wdf_model.specs.parts.Queues.{waiting_in}
use Rattle.wdf_model.specs.parts.Control as control
use Rattle.wdf_model.specs.parts.Targets.{is_forgotten}
use Rattle.wdf_model.specs.State.{State, withdrawn_place}
use Rattle.wdf_model.specs.Ids.{object_id}
use Rattle.wdf_model.specs.declared.deed.Deed.{Deed}
use Rattle.wdf_model.specs.declared.deed.Deed.TheVariants.{MakeRequest, Arrive, CountArrival, AskDeletion, EndLife, Present, Receive, Requeue, Forward, GiveBack, Withdraw, MarkRequest, UnmarkRequest, CancelRequest, TakeCancel, SendRequest, FinishSending, ComeBack, CompleteRequest, PurgeQueue, CloseReturning, CloseDevice}
use Rattle.wdf_model.specs.rules.Deeds.{close_queue, close_returning, do_deed, do_deeds, finished_at, give_up, queued, withdraw}
use Rattle.wdf_model.specs.rules.Posts.{arrival_info, arrival_place}
use Rattle.wdf_model.specs.rules.Steps.{deeds}
use Rattle.wdf_model.specs.rules.Ready.{IsRunOf, state_after}
use Rattle.wdf_model.proofs.Tests.{both_left, both_right, not_true}
use Rattle.wdf_model.proofs.Maps.{entry_map, entry_put_other, entry_put_same, entry_set_other, set_read}
use Rattle.wdf_model.proofs.Counts.{one_or_two}
use Rattle.law_machine_base.proofs.KeptByDeeds.{is_arrival, none_arrives}
use Rattle.law_machine_base.proofs.Arrivals.{event_none, is_arrival_event}
use Rattle.law_machine_lives.proofs.Keeping.{each_place}
use Rattle.law_machine_lives.proofs.Stays.{asks_all, given, given_if}
use Rattle.law_trace_requests.proofs.Marks.{is_armed}
use Rattle.law_trace_requests.proofs.Cancels.{AllGo}
use Rattle.law_trace_requests.proofs.CancelsOverRuns.{all_go_at_each}
use Rattle.law_machine_states.specs.States.{MarksAgree}
use Rattle.law_machine_lives.proofs.Readers.{requests_of}
use Rattle.law_machine_counts.proofs.Arrived.{arrived_requests}

-- a request that is marked isn't cancelled
abbrev pub Plain : Request → Type 0
Plain q = is_marked q.info.mark ≡ true → q.info.cancelled ≡ false

abbrev pub AllPlain : Requests → Type 0
AllPlain R = (x : ℕ) → Plain (request_of R x)

-- ---- one request

moved_plain : (q : Request) (p : Place) → Plain q → Plain (moved p q)
moved_plain q place.Owned k = k
moved_plain q place.Done k = k
moved_plain q _ k = λ h. absurd (let z : ⊥ = cc in z)

cancel_unmarks : (m : Mark) → is_marked (mark_cancelled m) ≡ true → ⊥
cancel_unmarks marks.Marked h = let z : ⊥ = cc in z
cancel_unmarks _ h = let z : ⊥ = cc in z

cancelled_plain : (q : Request) → Plain (cancelled q)
cancelled_plain q h = absurd (cancel_unmarks q.info.mark h)

marked_by : (q : Request) (b : Bool) → q.info.cancelled ≡ b → Plain q → Plain (if b then q else with_mark marks.Marked q)
marked_by q true e k = k
marked_by q false e k = λ h. e

unmarked_by : (q : Request) (b : Bool) → Plain q → Plain (if b then with_mark marks.Unmarked q else q)
unmarked_by q true k = λ h. absurd (let z : ⊥ = cc in z)
unmarked_by q false k = k

closed_by : (q : Request) (b : Bool) → Plain q → Plain (if b then moved (place.Closing status.Cancelled) q else q)
closed_by q true k = moved_plain q (place.Closing status.Cancelled) k
closed_by q false k = k

forgotten_by : (q : Request) (b : Bool) → Plain q → Plain (if b then no_request else q)
forgotten_by q true k = λ h. absurd (let z : ⊥ = cc in z)
forgotten_by q false k = k

-- ---- the acts on requests

one_changes : (R : Requests) (r : ℕ) (f : Request → Request) → Plain (f (request_of R r)) → AllPlain R → AllPlain (with_request R r f)
one_changes R r f new k x = elim (one_or_two x r) [
  | inl e ↦ rw e (subst Plain (sym (entry_put_same no_request R.all r (f (request_of R r)))) new)
  | inr n ↦ subst Plain (sym (entry_put_other no_request R.all r x (f (request_of R r)) n)) (k x)
]

moves : (R : Requests) (r : ℕ) (p : Place) → AllPlain R → AllPlain (requests.move_to R r p)
moves R r p k = one_changes R r (moved p) (moved_plain (request_of R r) p (k r)) k

cancels : (R : Requests) (r : ℕ) → AllPlain R → AllPlain (requests.cancel R r)
cancels R r k = one_changes R r cancelled (cancelled_plain (request_of R r)) k

all_close : (R : Requests) (here : Place → Bool) → here place.Done ≡ false → AllPlain R → AllPlain (record R { all = map (closed_at here) R.all })
all_close R here off k x =
    let blank : closed_at here no_request ≡ no_request = rw off refl in
    subst Plain (sym (entry_map no_request R.all (closed_at here) x blank)) (closed_by (request_of R x) (here (request_of R x).place) (k x))

forgets : (R : Requests) (r : ℕ) → AllPlain R → AllPlain (requests.forget R r)
forgets R r k x = elim (one_or_two x r) [
  | inl e ↦ rw e (subst Plain (sym (set_read no_request forgotten R.all r refl)) (forgotten_by (request_of R r) (is_over (request_of R r)) (k r)))
  | inr n ↦ subst Plain (sym (entry_set_other no_request R.all r x (forgotten (request_of R r)) n)) (k x)
]

-- a request comes without a mark
comes : (R : Requests) (r : ℕ) (p : Place) (info : RequestInfo) → is_marked info.mark ≡ false → AllPlain R → AllPlain (requests.arrive R r p info)
comes R r p info off k x = elim (one_or_two x r) [
  | inl e ↦ rw e (subst Plain (sym (entry_put_same no_request R.all r (record { place = p; info = info }))) (λ h. absurd (let z : ⊥ = cc in z)))
  | inr n ↦ subst Plain (sym (entry_put_other no_request R.all r x (record { place = p; info = info }) n)) (k x)
]

-- ---- deeds by which nothing arrives

same_requests : (R U : Requests) → U ≡ R → AllPlain R → AllPlain U
same_requests R U e k = subst AllPlain (sym e) k

then_moves : (R U : Requests) (r : ℕ) (p : Place) → U ≡ R → AllPlain R → AllPlain (requests.move_to U r p)
then_moves R U r p e k = moves U r p (same_requests R U e k)

then_cancels : (R U : Requests) (r : ℕ) (p : Place) → U ≡ R → AllPlain R → AllPlain (requests.move_to (requests.cancel U r) r p)
then_cancels R U r p e k = moves (requests.cancel U r) r p (cancels U r (same_requests R U e k))

all_withdrawn : {A : Type 0} (plan : Plan) (q : ℕ) (rs : List ℕ) (S : State A) → AllPlain S.requests → AllPlain (fold (withdraw plan q) S rs).requests
all_withdrawn plan q [] S k = k
all_withdrawn plan q (r ∷ rs) S k = all_withdrawn plan q rs (withdraw plan q S r) (then_cancels S.requests S.requests r _ refl k)

all_returning : {A : Type 0} (qs : List ℕ) (S : State A) → AllPlain S.requests → AllPlain (fold close_returning S qs).requests
all_returning [] S k = k
all_returning (q ∷ qs) S k = all_returning qs (close_returning S q) (all_close S.requests (is_returning_to q) refl k)

all_closed : {A : Type 0} (qs : List ℕ) (S : State A) → AllPlain S.requests → AllPlain (fold close_queue S qs).requests
all_closed [] S k = k
all_closed (q ∷ qs) S k = all_closed qs (close_queue S q) (all_close S.requests (is_in q) refl k)

plain_by : {A : Type 0} (plan : Plan) (d : Deed) (S : State A) → is_arrival d ≡ false → AllPlain S.requests → AllPlain (do_deed plan d S).requests
plain_by plan (Arrive device info p) S h k = absurd (let z : ⊥ = cc in z)
plain_by plan (MakeRequest class parent) S h k = comes S.requests (next_id S.tree) place.Owned (made_info (nearest_device S.tree parent.0)) refl k
plain_by plan (AskDeletion o) S h k = same_requests _ _ (asks_all requests_of (λ S T D W U. refl) (subtree S.tree o.0) S) k
plain_by plan (EndLife o) S h k = forgets S.requests o.0 k
plain_by plan (Present q r) S h k = moves S.requests r.0 place.Owned k
plain_by plan (Receive q r) S h k = moves S.requests r.0 place.Owned k
plain_by plan (Requeue r q) S h k = then_moves _ _ r.0 (queued q.0) (given requests_of (λ S Q P. refl) S r.0) k
plain_by plan (Forward r q) S h k = then_moves _ _ r.0 (queued q.0) (given requests_of (λ S Q P. refl) S r.0) k
plain_by plan (GiveBack r q) S h k = then_cancels _ _ r.0 (withdrawn_place plan (give_up S r.0) q.0 r.0) (given requests_of (λ S Q P. refl) S r.0) k
plain_by plan (Withdraw q r) S h k = then_cancels S.requests S.requests r.0 (withdrawn_place plan S q.0 r.0) refl k
plain_by plan (MarkRequest r) S h k = one_changes S.requests r.0 marked (marked_by (request_of S.requests r.0) (request_of S.requests r.0).info.cancelled refl (k r.0)) k
plain_by plan (UnmarkRequest r) S h k = one_changes S.requests r.0 unmarked (unmarked_by (request_of S.requests r.0) (is_marked (request_of S.requests r.0).info.mark) (k r.0)) k
plain_by plan (CancelRequest r) S h k = cancels S.requests r.0 k
plain_by plan (TakeCancel r) S h k = one_changes S.requests r.0 (with_mark marks.Taken) (λ e. absurd (let z : ⊥ = cc in z)) k
plain_by plan (SendRequest r t forget) S h k = then_moves _ _ r.0 (place.Sent (record { 0 = t.0 })) (given_if requests_of (λ S Q P. refl) S forget r.0) k
plain_by plan (FinishSending r s) S h k = moves S.requests r.0 (finished_at (is_forgotten S.targets r.0) s (place_of S.requests r.0)) k
plain_by plan (ComeBack r) S h k = moves S.requests r.0 place.Owned k
plain_by plan (CompleteRequest r) S h k =
    same_requests (requests.complete S.requests r.0) (do_deed plan (CompleteRequest r) S).requests
    (asks_all requests_of (λ S T D W U. refl) (subtree (give_up S r.0).tree r.0) (record (give_up S r.0) { requests = requests.complete S.requests r.0 }))
    (moves S.requests r.0 place.Done k)
plain_by plan (PurgeQueue q) S h k = all_withdrawn plan q.0 (waiting_in S.queues q.0) (record S { control = control.set_mode S.control q.0 mode.Purged }) k
plain_by plan (CloseReturning d) S h k = all_returning (managed_queues plan d.0) S k
plain_by plan (CloseDevice d) S h k = all_closed (queues_of plan d.0) (record S { control = control.shut S.control d.0 }) k
plain_by plan _ S h k = k

-- ---- events

deeds_plain : {A : Type 0} (plan : Plan) (ds : List Deed) (S : State A) → none_arrives ds ≡ true → AllPlain S.requests → AllPlain (do_deeds plan ds S).requests
deeds_plain plan [] S h k = k
deeds_plain plan (d ∷ ds) S h k =
    let none : is_arrival d ≡ false = not_true (is_arrival d) (both_left (not (is_arrival d)) (none_arrives ds) h) in
    deeds_plain plan ds (do_deed plan d S) (both_right (not (is_arrival d)) (none_arrives ds) h) (plain_by plan d S none k)

arrival_by : {A : Type 0} (plan : Plan) (S : State A) (agent : ℕ) (f : RequestForm) (length code device : ℕ) (b : Bool) → AllPlain S.requests
    → AllPlain (do_deeds plan (CountArrival agent ∷ (if b then Arrive (object_id device) (arrival_info S agent f length code device) (arrival_place plan S f length device) ∷ [] else [])) S).requests
arrival_by plan S agent f length code device true k =
    let info : RequestInfo = arrival_info S agent f length code device in
    let p : Place = arrival_place plan S f length device in
    same_requests _ _ (arrived_requests (do_deed plan (CountArrival agent) S) device info p) (comes S.requests (next_id S.tree) p info refl k)
arrival_by plan S agent f length code device false k = k

arrival_event : {A : Type 0} (plan : Plan) (S : State A) (e : Event) → is_arrival_event e ≡ true → AllPlain S.requests → AllPlain (do_deeds plan (deeds plan S e) S).requests
arrival_event plan S (event.Posted agent (post.Read device length) answer) a k = arrival_by plan S agent form.Read length 0 device.id.0 (is_live (life_of S.tree device.id.0)) k
arrival_event plan S (event.Posted agent (post.Write device length) answer) a k = arrival_by plan S agent form.Write length 0 device.id.0 (is_live (life_of S.tree device.id.0)) k
arrival_event plan S (event.Posted agent (post.Control device code length) answer) a k = arrival_by plan S agent form.Control length code device.id.0 (is_live (life_of S.tree device.id.0)) k
arrival_event plan S _ a k = absurd (let z : ⊥ = cc in z)

event_plain : {A : Type 0} (plan : Plan) (S : State A) (e : Event) → AllPlain S.requests → AllPlain (do_deeds plan (deeds plan S e) S).requests
event_plain plan S e k = elim (cases_Bool (is_arrival_event e)) [
  | inl a ↦ arrival_event plan S e a k
  | inr a ↦ deeds_plain plan (deeds plan S e) S (event_none plan S e a) k
]

-- ---- each place of a run

opens : AllPlain requests.no_requests
opens x h = absurd (let z : ⊥ = cc in z)

pub plain_at_each : {A : Type 0} (plan : Plan) (m : Meaning A) (run : List Event) → IsRunOf plan m run → (n : ℕ) → AllPlain (state_after plan m (take n run)).requests
plain_at_each {A} plan m run is_run n = each_place plan m (λ (S : State A). AllPlain S.requests) opens (λ S e known may_come k. event_plain plan S e k) (λ S time k. k) run is_run n

marked_armed : (m : Mark) → is_marked m ≡ true → is_armed m ≡ true
marked_armed marks.Marked h = refl
marked_armed marks.Due h = refl
marked_armed marks.Taken h = absurd (let z : ⊥ = cc in z)
marked_armed marks.Unmarked h = absurd (let z : ⊥ = cc in z)

due_armed : (m : Mark) → is_due m ≡ true → is_armed m ≡ true
due_armed marks.Due h = refl
due_armed marks.Marked h = refl
due_armed marks.Taken h = absurd (let z : ⊥ = cc in z)
due_armed marks.Unmarked h = absurd (let z : ⊥ = cc in z)

pub marks_agree_at_each : {A : Type 0} (plan : Plan) (m : Meaning A) (run : List Event) → IsRunOf plan m run → (n : ℕ) → MarksAgree (state_after plan m (take n run))
marks_agree_at_each plan m run is_run n =
    let R : Requests = (state_after plan m (take n run)).requests in
    let g : AllGo (take n run) R = all_go_at_each plan m run is_run n in
    record {
      marked = λ r h. ((g r).goes.owned (marked_armed (mark_of R r) h), plain_at_each plan m run is_run n r h);
      due = λ r h. ((g r).goes.owned (due_armed (mark_of R r) h), (g r).goes.due h);
    }
