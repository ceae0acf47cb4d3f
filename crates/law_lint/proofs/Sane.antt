-- A request that is cancelable, or whose cancel is due, is owned; one that is sent came from a queue.
use Rattle.std.proofs.Common.{if◌then◌else◌, ◌≡◌, ℕ, Bool, true, false, not, ◌&&◌, List, [], ◌∷◌, inl, inr, Option, is_none, map, fold, refl, sym, ap, subst, ◌∙◌}
use Rattle.std.specs.Prelude.{⊤}
use Rattle.std.specs.List.{list_all}
use Rattle.wdf_base.specs.declared.plan.Plan.{Plan}
use Rattle.wdf_base.specs.declared.ids.ObjectId.{ObjectId}
use Rattle.wdf_base.specs.declared.value.Status.{Status}
use Rattle.wdf_base.specs.declared.value.Status.TheVariants as status
use Rattle.wdf_base.specs.declared.object.Mark.{Mark}
use Rattle.wdf_base.specs.declared.object.Mark.TheVariants as marks
use Rattle.wdf_base.specs.declared.object.Place.{Place}
use Rattle.wdf_base.specs.declared.object.Place.TheVariants as place
use Rattle.wdf_base.specs.declared.object.RequestInfo.{RequestInfo}
use Rattle.wdf_base.specs.Places.{is_marked, is_owned, is_returning_to, is_sent}
use Rattle.wdf_model.specs.declared.enums.Mode.TheVariants as mode
use Rattle.wdf_model.specs.declared.entries.Request.{Request}
use Rattle.wdf_model.specs.Plans.{managed_queues, queues_of}
use Rattle.wdf_model.specs.parts.Tree.{nearest_device, next_id}
use Rattle.wdf_model.specs.parts.Requests.{Requests, cancelled, closed_at, forgotten, is_in, is_over, made_info, mark_cancelled, marked, moved, no_request, origin_from, place_of, request_of, unmarked, with_mark, with_request}
use Rattle.wdf_model.specs.parts.Requests as requests
use Rattle.wdf_model.specs.parts.Queues.{waiting_in}
use Rattle.wdf_model.specs.parts.Queues as queues
use Rattle.wdf_model.specs.parts.Tree as tree
use Rattle.wdf_model.specs.parts.Control as control
use Rattle.wdf_model.specs.parts.Targets.{is_forgotten, is_undone}
use Rattle.wdf_model.specs.State.{State, returns_to, withdrawn_place}
use Rattle.wdf_model.specs.declared.deed.Deed.{Deed}
use Rattle.wdf_model.specs.declared.deed.Deed.TheVariants.{MakeRequest, Arrive, AskDeletion, EndLife, Present, Receive, Requeue, Forward, GiveBack, Withdraw, MarkRequest, UnmarkRequest, CancelRequest, TakeCancel, SendRequest, FinishSending, ComeBack, CompleteRequest, PurgeQueue, CloseReturning, CloseDevice}
use Rattle.wdf_model.specs.rules.Deeds.{close_queue, close_returning, do_deed, do_deeds, finished_at, give_up, queued, withdraw}
use Rattle.law_machine_base.specs.Fits.{all_fit, fits}
use Rattle.wdf_model.proofs.Tests.{both_left, not_true}
use Rattle.wdf_model.proofs.Maps.{entry_map, entry_put_other, entry_put_same, entry_set_other, set_read}
use Rattle.wdf_model.proofs.Counts.{one_or_two}
use Rattle.law_machine_base.proofs.KeptByDeeds.{owned_of}
use Rattle.law_lint.proofs.Grips.{arrives, asked, given_up_if, is_armed}
use Rattle.law_trace_settled.proofs.Returning.{given_requests}
use Rattle.law_machine_lives.proofs.AllOf.{AllOf, all_keep, all_such}

pub record Sane (q : Request) : Type 0 where
  pub armed : is_armed q.info.mark ≡ true → is_owned q.place ≡ true
  pub sent : is_sent q.place ≡ true → is_none q.info.origin ≡ false

-- all requests
abbrev pub AllSane : Requests → Type 0
AllSane R = (x : ℕ) → Sane (request_of R x)

same_sane : (R U : Requests) → U ≡ R → AllSane R → AllSane U
same_sane R U e h = subst AllSane (sym e) h

one_changes : (R : Requests) (r : ℕ) (f : Request → Request) → Sane (f (request_of R r)) → AllSane R → AllSane (with_request R r f)
one_changes R r f h all x = elim (one_or_two x r) [
  | inl e ↦ subst (λ y. Sane (request_of (with_request R r f) y)) (sym e) (subst Sane (sym (entry_put_same no_request R.all r (f (request_of R r)))) h)
  | inr n ↦ subst Sane (sym (entry_put_other no_request R.all r x (f (request_of R r)) n)) (all x)
]

-- a request that moves, but not to Sent or Done
abbrev IsPlainPlace : Place → Type 0
IsPlainPlace place.Owned = ⊤
IsPlainPlace (place.Queued q) = ⊤
IsPlainPlace (place.Returning q) = ⊤
IsPlainPlace (place.Closing s) = ⊤
IsPlainPlace (place.Sent t) = ⊥
IsPlainPlace place.Done = ⊥

moves_sane : (q : Request) (p : Place) → IsPlainPlace p → Sane (moved p q)
moves_sane q place.Owned h = record { armed = λ a. refl; sent = λ s. absurd (let z : ⊥ = cc in z) }
moves_sane q (place.Queued w) h = record { armed = λ a. absurd (let z : ⊥ = cc in z); sent = λ s. absurd (let z : ⊥ = cc in z) }
moves_sane q (place.Returning w) h = record { armed = λ a. absurd (let z : ⊥ = cc in z); sent = λ s. absurd (let z : ⊥ = cc in z) }
moves_sane q (place.Closing w) h = record { armed = λ a. absurd (let z : ⊥ = cc in z); sent = λ s. absurd (let z : ⊥ = cc in z) }
moves_sane q (place.Sent t) h = absurd h
moves_sane q place.Done h = absurd h

sends_sane : (q : Request) (t : ObjectId) → is_none (origin_from q.place (place.Sent t) q.info.origin) ≡ false → Sane (moved (place.Sent t) q)
sends_sane q t came = record { armed = λ a. absurd (let z : ⊥ = cc in z); sent = λ s. came }

sent_origin : (p : Place) (t : ObjectId) (o : Option ObjectId) → origin_from p (place.Sent t) o ≡ o
sent_origin (place.Queued q) t o = refl
sent_origin (place.Returning q) t o = refl
sent_origin place.Owned t o = refl
sent_origin (place.Sent q) t o = refl
sent_origin (place.Closing s) t o = refl
sent_origin place.Done t o = refl

done_sane : (q : Request) → is_armed q.info.mark ≡ false → Sane (moved place.Done q)
done_sane q off = record { armed = λ a. absurd (let z : ⊥ = cc in z); sent = λ s. absurd (let z : ⊥ = cc in z) }

finishes_sane : (q : Request) (b : Bool) (s : Status) (p : Place) → q.place ≡ p → is_sent p ≡ true → Sane q → Sane (moved (finished_at b s p) q)
finishes_sane q true s p e is h = moves_sane q (place.Closing s) tt
finishes_sane q false s (place.Sent t) e is h = sends_sane q t (ap is_none (sent_origin q.place t q.info.origin) ∙ h.sent (ap is_sent e))
finishes_sane q false s place.Owned e is h = absurd (let z : ⊥ = cc in z)
finishes_sane q false s (place.Queued w) e is h = absurd (let z : ⊥ = cc in z)
finishes_sane q false s (place.Returning w) e is h = absurd (let z : ⊥ = cc in z)
finishes_sane q false s (place.Closing w) e is h = absurd (let z : ⊥ = cc in z)
finishes_sane q false s place.Done e is h = absurd (let z : ⊥ = cc in z)

cancelled_armed : (k : Mark) → is_armed (mark_cancelled k) ≡ true → is_armed k ≡ true
cancelled_armed marks.Marked h = refl
cancelled_armed marks.Due h = refl
cancelled_armed marks.Taken h = absurd (let z : ⊥ = cc in z)
cancelled_armed marks.Unmarked h = absurd (let z : ⊥ = cc in z)

cancels_sane : (q : Request) → Sane q → Sane (cancelled q)
cancels_sane q h = record { armed = λ a. h.armed (cancelled_armed q.info.mark a); sent = h.sent }

marks_sane : (q : Request) (b : Bool) → is_owned q.place ≡ true → Sane q → Sane (if b then q else with_mark marks.Marked q)
marks_sane q true own h = h
marks_sane q false own h = record { armed = λ a. own; sent = h.sent }

unmarks_sane : (q : Request) (b : Bool) → Sane q → Sane (if b then with_mark marks.Unmarked q else q)
unmarks_sane q true h = record { armed = λ a. absurd (let z : ⊥ = cc in z); sent = h.sent }
unmarks_sane q false h = h

taken_sane : (q : Request) → Sane q → Sane (with_mark marks.Taken q)
taken_sane q h = record { armed = λ a. absurd (let z : ⊥ = cc in z); sent = h.sent }

blank_sane : Sane no_request
blank_sane = record { armed = λ a. absurd (let z : ⊥ = cc in z); sent = λ s. absurd (let z : ⊥ = cc in z) }

forgets_sane : (q : Request) (b : Bool) → Sane q → Sane (if b then no_request else q)
forgets_sane q true h = blank_sane
forgets_sane q false h = h

closes_sane : (q : Request) (b : Bool) → Sane q → Sane (if b then moved (place.Closing status.Cancelled) q else q)
closes_sane q true h = moves_sane q (place.Closing status.Cancelled) tt
closes_sane q false h = h

all_close : (R : Requests) (here : Place → Bool) → here place.Done ≡ false → AllSane R → AllSane (record R { all = map (closed_at here) R.all })
all_close R here off all x =
    let blank : closed_at here no_request ≡ no_request = rw off refl in
    subst Sane (sym (entry_map no_request R.all (closed_at here) x blank)) (closes_sane (request_of R x) (here (place_of R x)) (all x))

withdrawn_plain : {A : Type 0} (plan : Plan) (S : State A) (q r : ℕ) → IsPlainPlace (withdrawn_place plan S q r)
withdrawn_plain plan S q r = by ((requests.info_of S.requests r).received && returns_to plan S q)
  where
    by : (b : Bool) → IsPlainPlace (if b then place.Returning (record { 0 = q }) else place.Closing status.Cancelled)
    by true = tt
    by false = tt

withdraws : (R : Requests) (r : ℕ) (p : Place) → IsPlainPlace p → AllSane R → AllSane (requests.move_to (requests.cancel R r) r p)
withdraws R r p is all = one_changes (requests.cancel R r) r (moved p) (moves_sane (request_of (requests.cancel R r) r) p is) (one_changes R r cancelled (cancels_sane (request_of R r) (all r)) all)

all_withdrawn : {A : Type 0} (plan : Plan) (q : ℕ) (rs : List ℕ) (S : State A) → AllSane S.requests → AllSane (fold (withdraw plan q) S rs).requests
all_withdrawn plan q [] S all = all
all_withdrawn {A} plan q (r ∷ rs) S all =
    let W : State A = record S { queues = queues.take_cancelled S.queues r } in
    all_withdrawn plan q rs (withdraw plan q S r) (withdraws S.requests r (withdrawn_place plan W q r) (withdrawn_plain plan W q r) all)

all_returning : {A : Type 0} (qs : List ℕ) (S : State A) → AllSane S.requests → AllSane (fold close_returning S qs).requests
all_returning [] S all = all
all_returning (q ∷ qs) S all = all_returning qs (close_returning S q) (all_close S.requests (is_returning_to q) refl all)

all_closed : {A : Type 0} (qs : List ℕ) (S : State A) → AllSane S.requests → AllSane (fold close_queue S qs).requests
all_closed [] S all = all
all_closed (q ∷ qs) S all = all_closed qs (close_queue S q) (all_close S.requests (is_in q) refl all)

-- what the deeds of arrivals and of owners ask for
abbrev pub SaneDeed : {A : Type 0} → Deed → State A → Type 0
SaneDeed (Arrive device info p) S = (info.mark ≡ marks.Unmarked) × (is_sent p ≡ false)
SaneDeed (SendRequest r t forget) S = is_none (request_of S.requests r.0).info.origin ≡ false
SaneDeed (CompleteRequest r) S = is_armed (request_of S.requests r.0).info.mark ≡ false
SaneDeed _ S = ⊤

new_sane : (p : Place) (info : RequestInfo) → info.mark ≡ marks.Unmarked → is_sent p ≡ false → Sane (record { place = p; info = info })
new_sane p info off no_target = record { armed = λ a. absurd (let none : is_armed info.mark ≡ false = ap is_armed off in let z : ⊥ = cc in z); sent = λ s. absurd (let z : ⊥ = cc in z) }

comes : (R : Requests) (r : ℕ) (p : Place) (info : RequestInfo) → info.mark ≡ marks.Unmarked → is_sent p ≡ false → AllSane R → AllSane (requests.arrive R r p info)
comes R r p info off no_target all x = elim (one_or_two x r) [
  | inl e ↦ subst (λ y. Sane (request_of (requests.arrive R r p info) y)) (sym e) (subst Sane (sym (entry_put_same no_request R.all r (record { place = p; info = info }))) (new_sane p info off no_target))
  | inr n ↦ subst Sane (sym (entry_put_other no_request R.all r x (record { place = p; info = info }) n)) (all x)
]

moved_then : (R U : Requests) (r : ℕ) (p : Place) → U ≡ R → IsPlainPlace p → AllSane R → AllSane (requests.move_to U r p)
moved_then R U r p e is all = subst (λ (V : Requests). AllSane (requests.move_to V r p)) (sym e) (one_changes R r (moved p) (moves_sane (request_of R r) p is) all)

pub deed_sane : {A : Type 0} (plan : Plan) (d : Deed) (S : State A) → fits plan d S ≡ true → SaneDeed d S → AllSane S.requests → AllSane (do_deed plan d S).requests
deed_sane plan (MakeRequest class parent) S f s all = comes S.requests (next_id S.tree) place.Owned (made_info (nearest_device S.tree parent.0)) refl refl all
deed_sane plan (Arrive device info p) S f s all =
    same_sane (requests.arrive S.requests (next_id S.tree) p info) _ (arrives 0 (record S { tree = tree.arrive S.tree device.0; requests = requests.arrive S.requests (next_id S.tree) p info }) p (next_id S.tree))
    (comes S.requests (next_id S.tree) p info s.0 s.1 all)
deed_sane plan (AskDeletion o) S f s all = same_sane S.requests _ (asked S o.0) all
deed_sane plan (EndLife o) S f s all = λ x. elim (one_or_two x o.0) [
  | inl e ↦ subst (λ y. Sane (request_of (requests.forget S.requests o.0) y)) (sym e) (subst Sane (sym (set_read no_request forgotten S.requests.all o.0 refl)) (forgets_sane (request_of S.requests o.0) (is_over (request_of S.requests o.0)) (all o.0)))
  | inr n ↦ subst Sane (sym (entry_set_other no_request S.requests.all o.0 x (forgotten (request_of S.requests o.0)) n)) (all x)
]
deed_sane plan (Present q r) S f s all = one_changes S.requests r.0 (moved place.Owned) (moves_sane (request_of S.requests r.0) place.Owned tt) all
deed_sane plan (Receive q r) S f s all = one_changes S.requests r.0 (moved place.Owned) (moves_sane (request_of S.requests r.0) place.Owned tt) all
deed_sane plan (Requeue r q) S f s all = moved_then S.requests (give_up S r.0).requests r.0 (queued q.0) (given_requests S r.0) tt all
deed_sane plan (Forward r q) S f s all = moved_then S.requests (give_up S r.0).requests r.0 (queued q.0) (given_requests S r.0) tt all
deed_sane plan (GiveBack r q) S f s all =
    subst (λ (V : Requests). AllSane (requests.move_to (requests.cancel V r.0) r.0 (withdrawn_place plan (give_up S r.0) q.0 r.0))) (sym (given_requests S r.0))
    (withdraws S.requests r.0 (withdrawn_place plan (give_up S r.0) q.0 r.0) (withdrawn_plain plan (give_up S r.0) q.0 r.0) all)
deed_sane {A} plan (Withdraw q r) S f s all =
    let W : State A = record S { queues = queues.take_cancelled S.queues r.0 } in
    withdraws S.requests r.0 (withdrawn_place plan W q.0 r.0) (withdrawn_plain plan W q.0 r.0) all
deed_sane plan (MarkRequest r) S f s all = one_changes S.requests r.0 marked (marks_sane (request_of S.requests r.0) (requests.is_cancelled S.requests r.0) (owned_of S r.0 f) (all r.0)) all
deed_sane plan (UnmarkRequest r) S f s all = one_changes S.requests r.0 unmarked (unmarks_sane (request_of S.requests r.0) (is_marked (requests.mark_of S.requests r.0)) (all r.0)) all
deed_sane plan (CancelRequest r) S f s all = one_changes S.requests r.0 cancelled (cancels_sane (request_of S.requests r.0) (all r.0)) all
deed_sane plan (TakeCancel r) S f s all = one_changes S.requests r.0 (with_mark marks.Taken) (taken_sane (request_of S.requests r.0) (all r.0)) all
deed_sane plan (SendRequest r t forget) S f s all =
    subst (λ (V : Requests). AllSane (requests.move_to V r.0 (place.Sent (record { 0 = t.0 })))) (sym (given_up_if S forget r.0))
    (one_changes S.requests r.0 (moved (place.Sent (record { 0 = t.0 }))) (sends_sane (request_of S.requests r.0) (record { 0 = t.0 }) (ap is_none (sent_origin (place_of S.requests r.0) (record { 0 = t.0 }) (request_of S.requests r.0).info.origin) ∙ s)) all)
deed_sane plan (FinishSending r w) S f s all =
    one_changes S.requests r.0 (moved (finished_at (is_forgotten S.targets r.0) w (place_of S.requests r.0))) (finishes_sane (request_of S.requests r.0) (is_forgotten S.targets r.0) w (place_of S.requests r.0) refl (both_left (is_sent (place_of S.requests r.0)) (is_undone S.targets r.0) f) (all r.0)) all
deed_sane plan (ComeBack r) S f s all = one_changes S.requests r.0 (moved place.Owned) (moves_sane (request_of S.requests r.0) place.Owned tt) all
deed_sane plan (CompleteRequest r) S f s all =
    same_sane (requests.move_to S.requests r.0 place.Done) _ (asked (record (give_up S r.0) { requests = requests.complete S.requests r.0 }) r.0)
    (one_changes S.requests r.0 (moved place.Done) (done_sane (request_of S.requests r.0) s) all)
deed_sane plan (PurgeQueue q) S f s all = all_withdrawn plan q.0 (waiting_in S.queues q.0) (record S { control = control.set_mode S.control q.0 mode.Purged }) all
deed_sane plan (CloseReturning d) S f s all = all_returning (managed_queues plan d.0) S all
deed_sane plan (CloseDevice d) S f s all = all_closed (queues_of plan d.0) (record S { control = control.shut S.control d.0 }) all
deed_sane plan _ S f s all = all

abbrev pub AllSaneDeeds : {A : Type 0} → Plan → List Deed → State A → Type 0
AllSaneDeeds {A} plan ds S = AllOf plan (λ (d : Deed) (U : State A). SaneDeed d U) ds S

pub deeds_sane : {A : Type 0} (plan : Plan) (ds : List Deed) (S : State A) → all_fit plan ds S ≡ true → AllSaneDeeds plan ds S → AllSane S.requests → AllSane (do_deeds plan ds S).requests
deeds_sane {A} plan ds S f s all = all_keep plan (λ (d : Deed) (U : State A). SaneDeed d U) (λ (U : State A). AllSane U.requests) (deed_sane plan) ds S f s all

-- the deeds that ask for something
abbrev pub is_asking : Deed → Bool
is_asking (Arrive device info p) = true
is_asking (SendRequest r t forget) = true
is_asking (CompleteRequest r) = true
is_asking _ = false

pub asks_none : {A : Type 0} (d : Deed) (S : State A) → is_asking d ≡ false → SaneDeed d S
asks_none (Arrive device info p) S h = absurd (let z : ⊥ = cc in z)
asks_none (SendRequest r t forget) S h = absurd (let z : ⊥ = cc in z)
asks_none (CompleteRequest r) S h = absurd (let z : ⊥ = cc in z)
asks_none _ S h = tt

pub all_ask_none : {A : Type 0} (plan : Plan) (ds : List Deed) (S : State A) → list_all (λ d. not (is_asking d)) ds ≡ true → AllSaneDeeds plan ds S
all_ask_none {A} plan ds S h = all_such plan (λ (d : Deed) (U : State A). SaneDeed d U) (λ d. not (is_asking d)) (λ d U k. asks_none d U (not_true (is_asking d) k)) ds S h
