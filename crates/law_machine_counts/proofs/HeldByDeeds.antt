-- Each deed that fits keeps what is held in step with what is counted and noted of it: a line for each.
use Rattle.std.proofs.Common.{map, Option, Some, None, is_none, option_map, ◌||◌, if◌then◌else◌, ◌≡◌, ◌≢◌, ℕ, ◌==◌, ◌≤◌, Bool, true, false, ◌&&◌, List, [], ◌∷◌, ◌⊎◌, inl, inr, is_some, fold, count_by, refl, ap, sym, subst, ◌∙◌, arith}
use Rattle.std.proofs.lemmas.List.{length-map}
use Rattle.std.proofs.lemmas.Bool.{cases_Bool}
use Rattle.wdf_base.specs.declared.plan.Plan.{Plan}
use Rattle.wdf_base.specs.declared.object.Mark.TheVariants as mark
use Rattle.wdf_base.specs.declared.ids.ObjectId.{ObjectId}
use Rattle.wdf_base.specs.declared.object.Place.{Place}
use Rattle.wdf_base.specs.declared.object.Place.TheVariants as place
use Rattle.wdf_base.specs.declared.object.RequestInfo.{RequestInfo}
use Rattle.wdf_base.specs.declared.event.Stage.{Stage}
use Rattle.wdf_base.specs.declared.event.Stage.TheVariants as stage
use Rattle.wdf_base.specs.declared.event.Step.{Step}
use Rattle.wdf_base.specs.declared.event.Step.TheVariants as step
use Rattle.wdf_base.specs.declared.value.Status.TheVariants as status
use Rattle.wdf_base.specs.Places.{is_done, is_marked, is_owned, is_queued_in, is_returning_to, is_sent}
use Rattle.wdf_model.specs.declared.enums.Mode.TheVariants as mode
use Rattle.wdf_model.specs.declared.entries.Request.{Request}
use Rattle.wdf_model.specs.declared.entries.Holding.{Holding}
use Rattle.wdf_model.specs.Plans.{managed_queues, queues_of}
use Rattle.wdf_model.specs.Tables.{flag}
use Rattle.wdf_model.specs.parts.Tree.{nearest_device}
use Rattle.wdf_model.specs.parts.Requests.{cancelled, made_info, marked, moved, place_of, request_of, unmarked, with_mark, Requests, forgotten, is_over, no_request, closed_at, is_in}
use Rattle.wdf_model.specs.parts.Requests as requests
use Rattle.wdf_model.specs.parts.Queues as queues
use Rattle.wdf_model.specs.parts.Queues.{waiting_in, Queues, held_count}
use Rattle.wdf_model.specs.parts.Control as control
use Rattle.wdf_model.specs.parts.Targets.{is_forgotten, is_undone, routine_due, Targets}
use Rattle.wdf_model.specs.parts.Power.{Power, advance_stage, holding_of, is_held_at, no_holding, wake_holdings, with_up, woken}
use Rattle.wdf_model.specs.parts.Power as power
use Rattle.wdf_model.specs.State.{State, held_at, withdrawn_place}
use Rattle.wdf_model.specs.Ids.{object_id}
use Rattle.wdf_model.specs.declared.deed.Deed.{Deed}
use Rattle.wdf_model.specs.declared.deed.Deed.TheVariants.{MakeRequest, Arrive, AskDeletion, Present, Receive, Requeue, Forward, GiveBack, Withdraw, MarkRequest, UnmarkRequest, CancelRequest, TakeCancel, SendRequest, FinishSending, ComeBack, CompleteRequest, PurgeQueue, CloseDevice, CloseReturning, StopTarget, StartTarget, AdvancePower, Acknowledge, AskStop, Resume, EndLife}
use Rattle.wdf_model.specs.rules.Deeds.{arrive_at, ask_objects, close_queue, close_returning, do_deed, do_deeds, give_up, queued, withdraw}
use Rattle.wdf_model.specs.rules.Calls.{may_send}
use Rattle.law_machine_base.specs.Fits.{all_fit, fits, is_arrival_place}
use Rattle.wdf_model.proofs.Tests.{both_left, both_right}
use Rattle.wdf_model.proofs.Maps.{entry_map, as_long, entry_set_other, set_read}
use Rattle.law_machine_base.proofs.Deletion.{asking_deletes}
use Rattle.wdf_model.proofs.Counts.{at_head, equal, one_or_two}
use Rattle.law_machine_base.proofs.KeptByDeeds.{deed_keeps}
use Rattle.law_machine_base.proofs.KeptMoves.{request_elsewhere, request_here}
use Rattle.law_machine_counts.proofs.Forgotten.{stops_other}
use Rattle.law_machine_counts.proofs.Holding.{HoldsIn, held_by, holds_alike, holder, Holds}
use Rattle.law_machine_counts.proofs.Releases.{gives_up, same_holding}
use Rattle.law_machine_counts.proofs.HeldPlaces.{marked_held, unmarked_held, withdrawn_unheld}
use Rattle.law_machine_counts.proofs.HeldMoves.{Placed, away, away_cancelled, came_back, completed, entered_unheld, finished, gone_by, gone_cancelled, marks_hold, presented, received, sent_for_good, sent_to_return}

-- ---- places from which nothing is held

pub queued_unheld : (forgotten : Bool) (q : ℕ) (p : Place) → is_queued_in q p ≡ true → held_at forgotten p ≡ false
queued_unheld forgotten q place.Owned h = absurd (let z : ⊥ = cc in z)
queued_unheld forgotten q (place.Sent t) h = absurd (let z : ⊥ = cc in z)
queued_unheld forgotten q _ h = refl

pub returning_unheld : (forgotten : Bool) (q : ℕ) (p : Place) → is_returning_to q p ≡ true → held_at forgotten p ≡ false
returning_unheld forgotten q place.Owned h = absurd (let z : ⊥ = cc in z)
returning_unheld forgotten q (place.Sent t) h = absurd (let z : ⊥ = cc in z)
returning_unheld forgotten q _ h = refl

-- ---- cancels in a queue

withdrawn : {A : Type 0} (plan : Plan) (q : ℕ) (S : State A) (r : ℕ) → HoldsIn plan S → held_at (is_forgotten S.targets r) (place_of S.requests r) ≡ false → HoldsIn plan (withdraw plan q S r)
withdrawn plan q S r h old =
    away_cancelled r (withdrawn_place plan (record S { queues = queues.take_cancelled S.queues r }) q r) h old (withdrawn_unheld _ (is_forgotten S.targets r) q) (λ p. refl)

stays_unheld : {A : Type 0} (plan : Plan) (q : ℕ) (S : State A) (r x : ℕ) → held_at (is_forgotten S.targets x) (place_of S.requests x) ≡ false → (x ≡ r) ⊎ (x ≢ r)
    → held_at (is_forgotten S.targets x) (place_of (withdraw plan q S r).requests x) ≡ false
stays_unheld plan q S r x h (inl e) =
    rw e (ap (λ (y : Request). held_at (is_forgotten S.targets r) y.place) (request_here (requests.cancel S.requests r) r (moved (withdrawn_place plan (record S { queues = queues.take_cancelled S.queues r }) q r)))
    ∙ withdrawn_unheld _ (is_forgotten S.targets r) q)
stays_unheld plan q S r x h (inr n) =
    ap (λ (y : Request). held_at (is_forgotten S.targets x) y.place)
    (request_elsewhere (requests.cancel S.requests r) r x (moved (withdrawn_place plan (record S { queues = queues.take_cancelled S.queues r }) q r)) n ∙ request_elsewhere S.requests r x cancelled n)
    ∙ h

all_withdrawn : {A : Type 0} (plan : Plan) (q : ℕ) (rs : List ℕ) (S : State A) → HoldsIn plan S
    → ((x : ℕ) → 1 ≤ count_by (λ y. y == x) rs → held_at (is_forgotten S.targets x) (place_of S.requests x) ≡ false) → HoldsIn plan (fold (withdraw plan q) S rs)
all_withdrawn plan q [] S h waits = h
all_withdrawn plan q (r ∷ rs) S h waits =
    all_withdrawn plan q rs (withdraw plan q S r)
    (withdrawn plan q S r h (waits r (let e = at_head r r rs in let yes : flag (r == r) ≡ 1 = ap flag (equal r r refl) in omega arith)))
    (λ x more. stays_unheld plan q S r x (waits x (let e = at_head x r rs in omega arith)) (one_or_two x r))

waiting_unheld : {A : Type 0} (S : State A) (q x : ℕ) → Placed S → 1 ≤ count_by (λ y. y == x) (waiting_in S.queues q) → held_at (is_forgotten S.targets x) (place_of S.requests x) ≡ false
waiting_unheld S q x k more = elim (cases_Bool (is_queued_in q (place_of S.requests x))) [
  | inl e ↦ queued_unheld (is_forgotten S.targets x) q (place_of S.requests x) e
  | inr e ↦ absurd (let is = k.queued q x in let no_ : flag (is_queued_in q (place_of S.requests x)) ≡ 0 = ap flag e in omega arith)
]

-- ---- requests that are to be completed with CANCELLED

-- what is in a queue isn't held, and isn't held then
inside_unheld : (away : Bool) (q : ℕ) (p : Place) → is_in q p ≡ true → held_at away p ≡ false
inside_unheld away q place.Owned h = absurd (let z : ⊥ = cc in z)
inside_unheld away q (place.Sent t) h = absurd (let z : ⊥ = cc in z)
inside_unheld away q _ h = refl

closed_by : (away : Bool) (x : Request) (b : Bool) → (b ≡ true → held_at away x.place ≡ false) → held_by away (if b then moved (place.Closing status.Cancelled) x else x) ≡ held_by away x
closed_by away x true unheld = let no_ = unheld refl in rw no_ refl
closed_by away x false unheld = refl

closed_holds : {plan : Plan} {R : Requests} {Q Q' : Queues} {T : Targets} {P : Power} (here : Place → Bool) → here place.Done ≡ false → ((away : Bool) (p : Place) → here p ≡ true → held_at away p ≡ false)
    → Holds plan R Q T P → ((q : ℕ) → held_count Q' q ≡ held_count Q q) → Holds plan (record R { all = map (closed_at here) R.all }) Q' T P
closed_holds {R = R} {T = T} here done unheld h counts = holds_alike h
    (λ x. ap (held_by (is_forgotten T x)) (entry_map no_request R.all (closed_at here) x (rw done refl)) ∙ closed_by (is_forgotten T x) (request_of R x) (here (request_of R x).place) (unheld (is_forgotten T x) (request_of R x).place))
    (let long = length-map R.all (closed_at here) in omega arith) counts (λ x. refl)

all_returning_closed : {A : Type 0} (plan : Plan) (qs : List ℕ) (S : State A) → HoldsIn plan S → HoldsIn plan (fold close_returning S qs)
all_returning_closed plan [] S h = h
all_returning_closed plan (q ∷ qs) S h = all_returning_closed plan qs (close_returning S q) (closed_holds (is_returning_to q) refl (λ away p e. returning_unheld away q p e) h (λ x. refl))

all_queues_closed : {A : Type 0} (plan : Plan) (qs : List ℕ) (S : State A) → HoldsIn plan S → HoldsIn plan (fold close_queue S qs)
all_queues_closed plan [] S h = h
all_queues_closed plan (q ∷ qs) S h = all_queues_closed plan qs (close_queue S q) (closed_holds (is_in q) refl (λ away p e. inside_unheld away q p e) h (λ x. refl))

-- ---- power

pub woken_by : (P : Power) (d : ℕ) (h : Holding) (b : Bool) → is_held_at P d h ≡ b → (woken P d h).queue.0 ≡ h.queue.0
woken_by P d h true e = rw e refl
woken_by P d h false e = rw e refl

woken_queue : (P : Power) (d r : ℕ) → (holding_of (wake_holdings P d) r).queue.0 ≡ (holding_of P r).queue.0
woken_queue P d r = ap (λ (h : Holding). h.queue.0) (entry_map no_holding P.holdings (woken P d) r refl) ∙ woken_by P d (holding_of P r) (is_held_at P d (holding_of P r)) refl

stage_queue : (P : Power) (d : ℕ) (s : Stage) (r : ℕ) → (holding_of (advance_stage P d s) r).queue.0 ≡ (holding_of P r).queue.0
stage_queue P d stage.Hardware r = refl
stage_queue P d stage.NoHardware r = refl
stage_queue P d stage.QueuesUp r = woken_queue (with_up P d true) d r
stage_queue P d stage.QueuesDown r = refl
stage_queue P d _ r = refl

step_queue : (P : Power) (d : ℕ) (s : Step) (r : ℕ) → (holding_of (power.advance P d s) r).queue.0 ≡ (holding_of P r).queue.0
step_queue P d (step.Run c i) r = refl
step_queue P d (step.Pass s i) r = stage_queue P d s r

-- ---- each deed

arrives_there : {A : Type 0} (plan : Plan) (S : State A) (device : ℕ) (info : RequestInfo) (p : Place) → Placed S → HoldsIn plan S → is_arrival_place p ≡ true → HoldsIn plan (arrive_at S device info p)
arrives_there plan S device info (place.Queued q) k h f = entered_unheld S (place.Queued q) info k h (λ forgotten. refl) (λ p. refl)
arrives_there plan S device info (place.Closing s) k h f = entered_unheld S (place.Closing s) info k h (λ forgotten. refl) (λ p. refl)
arrives_there plan S device info _ k h f = absurd (let z : ⊥ = cc in z)

deleted : {A : Type 0} (plan : Plan) (S : State A) (o : ℕ) → HoldsIn plan S → HoldsIn plan (ask_objects S o)
deleted {A} plan S o h = subst (λ (T : State A). HoldsIn plan T) (sym (asking_deletes S o).rest) h

sends_it : {A : Type 0} (plan : Plan) (S : State A) (r t : ℕ) (forget : Bool) → Placed S → HoldsIn plan S → is_owned (place_of S.requests r) ≡ true → HoldsIn plan (do_deed plan (SendRequest (object_id r) (object_id t) forget) S)
sends_it plan S r t true k h owned = sent_for_good S (give_up S r) r t k h (gives_up plan S r h) owned
sends_it plan S r t false k h owned = sent_to_return S r t k h owned

-- ---- an object is destroyed

-- what the framework is done with isn't held
over_unheld : (away : Bool) (p : Place) (from : Option ObjectId) → (is_done p || (is_owned p && is_none from)) ≡ true → (if held_at away p then option_map (λ o. o.0) from else None) ≡ None
over_unheld away place.Done from h = refl
over_unheld away place.Owned None h = refl
over_unheld away place.Owned (Some o) h = absurd (let z : ⊥ = cc in z)
over_unheld away _ from h = absurd (let z : ⊥ = cc in z)

forgotten_unheld : (away : Bool) (q : Request) (b : Bool) → is_over q ≡ b → held_by away (if b then no_request else q) ≡ held_by away q
forgotten_unheld away q true e = sym (over_unheld away q.place q.info.origin e)
forgotten_unheld away q false e = refl

forgotten_holder : (R : Requests) (T : Targets) (o x : ℕ) → (x ≡ o) ⊎ (x ≢ o) → holder (requests.forget R o) T x ≡ holder R T x
forgotten_holder R T o x (inl e) =
    rw e (ap (held_by (is_forgotten T o)) (set_read no_request forgotten R.all o refl) ∙ forgotten_unheld (is_forgotten T o) (request_of R o) (is_over (request_of R o)) refl)
forgotten_holder R T o x (inr n) = ap (held_by (is_forgotten T x)) (entry_set_other no_request R.all o x (forgotten (request_of R o)) n)

pub deed_holds : {A : Type 0} (plan : Plan) (d : Deed) (S : State A) → fits plan d S ≡ true → Placed S → HoldsIn plan S → HoldsIn plan (do_deed plan d S)
deed_holds plan (MakeRequest class parent) S f k h = entered_unheld S place.Owned (made_info (nearest_device S.tree parent.0)) k h (λ forgotten. refl) (λ p. refl)
deed_holds plan (Arrive device info p) S f k h = arrives_there plan S device.0 info p k h (both_right _ (is_arrival_place p) f)
deed_holds plan (AskDeletion o) S f k h = deleted plan S o.0 h
deed_holds plan (Present q r) S f k h = presented S q.0 r.0 k h f
deed_holds plan (Receive q r) S f k h = received S q.0 r.0 h f
deed_holds plan (Requeue r q) S f k h =
    gone_by S (give_up S r.0) r.0 (queued q.0) h (gives_up plan S r.0 h) (λ forgotten. refl) (λ p. refl)
deed_holds plan (Forward r q) S f k h =
    gone_by S (give_up S r.0) r.0 (queued q.0) h (gives_up plan S r.0 h) (λ forgotten. refl) (λ p. refl)
deed_holds plan (GiveBack r q) S f k h = gone_cancelled S (give_up S r.0) r.0 (withdrawn_place plan (give_up S r.0) q.0 r.0) h (gives_up plan S r.0 h) (λ forgotten. withdrawn_unheld _ forgotten q.0)
deed_holds plan (Withdraw q r) S f k h = withdrawn plan q.0 S r.0 h (queued_unheld (is_forgotten S.targets r.0) q.0 (place_of S.requests r.0) f)
deed_holds plan (MarkRequest r) S f k h = marks_hold r.0 marked h (λ forgotten q. marked_held forgotten q q.info.cancelled refl)
deed_holds plan (UnmarkRequest r) S f k h = marks_hold r.0 unmarked h (λ forgotten q. unmarked_held forgotten q (is_marked q.info.mark) refl)
deed_holds plan (CancelRequest r) S f k h = marks_hold r.0 cancelled h (λ forgotten q. refl)
deed_holds plan (TakeCancel r) S f k h = marks_hold r.0 (with_mark mark.Taken) h (λ forgotten q. refl)
deed_holds plan (SendRequest r t forget) S f k h = sends_it plan S r.0 t.0 forget k h (both_left (is_owned (place_of S.requests r.0)) (may_send S r.0 t.0) (both_left (is_owned (place_of S.requests r.0) && may_send S r.0 t.0) _ f))
deed_holds plan (FinishSending r s) S f k h = finished S r.0 s h (both_left (is_sent (place_of S.requests r.0)) (is_undone S.targets r.0) f)
deed_holds plan (ComeBack r) S f k h = came_back S r.0 h (both_left (is_sent (place_of S.requests r.0)) (is_some (routine_due S.targets r.0)) f) (both_right (is_sent (place_of S.requests r.0)) (is_some (routine_due S.targets r.0)) f)
deed_holds plan (CompleteRequest r) S f k h = deleted plan (record (give_up S r.0) { requests = requests.complete S.requests r.0 }) r.0 (completed S (give_up S r.0) r.0 h (gives_up plan S r.0 h))
deed_holds plan (PurgeQueue q) S f k h = all_withdrawn plan q.0 (waiting_in S.queues q.0) (record S { control = control.set_mode S.control q.0 mode.Purged }) h (λ x more. waiting_unheld S q.0 x k more)
deed_holds plan (CloseReturning d) S f k h = all_returning_closed plan (managed_queues plan d.0) S h
deed_holds plan (CloseDevice d) S f k h = all_queues_closed plan (queues_of plan d.0) (record S { control = control.shut S.control d.0 }) h
deed_holds plan (EndLife o) S f k h = holds_alike h (λ x. forgotten_holder S.requests S.targets o.0 x (one_or_two x o.0)) (let e = as_long S.requests.all o.0 (forgotten (request_of S.requests o.0)) in omega arith) (λ q. refl) (λ x. refl)
deed_holds plan (AdvancePower d s) S f k h = holds_alike h (λ x. refl) (omega arith) (λ q. refl) (λ x. step_queue S.power d.0 s x)
deed_holds plan (Acknowledge r) S f k h = holds_alike h (λ x. refl) (omega arith) (λ q. refl) (λ x. same_holding S.power r.0 x (λ y. record y { acknowledged = true }) (λ y. refl))
deed_holds plan (AskStop r) S f k h = holds_alike h (λ x. refl) (omega arith) (λ q. refl) (λ x. same_holding S.power r.0 x (λ y. record y { stop_asked = true }) (λ y. refl))
deed_holds plan (Resume r) S f k h = holds_alike h (λ x. refl) (omega arith) (λ q. refl) (λ x. same_holding S.power r.0 x (λ y. record y { resume_due = false }) (λ y. refl))
deed_holds plan (StopTarget t) S f k h = holds_alike h (λ x. ap (λ b. held_by b (request_of S.requests x)) (stops_other S.targets t.0 x true)) (omega arith) (λ q. refl) (λ x. refl)
deed_holds plan (StartTarget t) S f k h = holds_alike h (λ x. ap (λ b. held_by b (request_of S.requests x)) (stops_other S.targets t.0 x false)) (omega arith) (λ q. refl) (λ x. refl)
deed_holds plan _ S f k h = h

-- ---- deeds one after another

pub deeds_hold : {A : Type 0} (plan : Plan) (ds : List Deed) (S : State A) → all_fit plan ds S ≡ true → Placed S → HoldsIn plan S → HoldsIn plan (do_deeds plan ds S)
deeds_hold plan [] S f k h = h
deeds_hold plan (d ∷ ds) S f k h =
    let now : fits plan d S ≡ true = both_left (fits plan d S) (all_fit plan ds (do_deed plan d S)) f in
    deeds_hold plan ds (do_deed plan d S) (both_right (fits plan d S) (all_fit plan ds (do_deed plan d S)) f) (deed_keeps plan d S now (λ _. refl) k) (deed_holds plan d S now k h)
