-- The laws on requests at each place of every run.
use Rattle.std.proofs.Common.{if◌then◌else◌, ◌≡◌, ℕ, zero, suc, ◌+◌, ◌==◌, ◌<◌, ◌≤◌, nat_le, Bool, true, false, ◌&&◌, ◌||◌, List, [], ◌∷◌, ◌++◌, ◌⊎◌, inl, inr, Option, Some, None, map, take, length, count_by, slice_get, refl, ap, sym, subst, ◌∙◌, arith}
use Rattle.std.proofs.lemmas.Bool.{cases_Bool, eqb-true, or_cases, or_left, or_right}
use Rattle.std.proofs.lemmas.Bool.Decides.{nat_tests}
use Rattle.std.proofs.lemmas.List.Folds.{list_any-append}
use Rattle.std.specs.List.{list_any}
use Rattle.wdf_base.specs.Meaning.{Meaning}
use Rattle.wdf_base.specs.declared.ids.Cpu.{Cpu}
use Rattle.wdf_base.specs.declared.ids.Handle.{Handle}
use Rattle.wdf_base.specs.declared.plan.Plan.{Plan}
use Rattle.wdf_base.specs.declared.value.Value.{Value}
use Rattle.wdf_base.specs.declared.object.Kind.TheVariants as kind
use Rattle.wdf_base.specs.declared.object.Place.TheVariants as place
use Rattle.wdf_base.specs.declared.object.RequestForm.{RequestForm}
use Rattle.wdf_base.specs.declared.object.RequestForm.TheVariants as form
use Rattle.wdf_base.specs.declared.call.Arg.{Arg}
use Rattle.wdf_base.specs.declared.call.CallKind.{CallKind}
use Rattle.wdf_base.specs.declared.call.CallKind.TheVariants as call
use Rattle.wdf_base.specs.declared.declared.Declared.{Declared}
use Rattle.wdf_base.specs.declared.declared.Declared.TheVariants as declared
use Rattle.wdf_base.specs.declared.declared.TargetInfo.{TargetInfo}
use Rattle.wdf_base.specs.declared.event.Event.{Event}
use Rattle.wdf_base.specs.declared.event.Event.TheVariants as event
use Rattle.wdf_base.specs.declared.event.Post.TheVariants as post
use Rattle.wdf_base.specs.Same.{same_call_kind, same_handle, same_kind, same_option, same_post}
use Rattle.wdf_base.specs.Lives.{is_live}
use Rattle.wdf_base.specs.Places.{is_closing, is_done}
use Rattle.wdf_model.specs.declared.entries.Request.{Request}
use Rattle.wdf_model.specs.Runs.{IsRun}
use Rattle.wdf_model.specs.Tables.{entry, flag}
use Rattle.wdf_model.specs.Plans.{declared_ids, target_of}
use Rattle.wdf_model.specs.parts.Tree.{declared_node, gone, kind_of, life_of, next_id, opening_tree}
use Rattle.wdf_model.specs.parts.Requests.{Requests, has_arrived, moved, place_of}
use Rattle.wdf_model.specs.parts.Requests as requests
use Rattle.wdf_model.specs.parts.Targets.{no_target, opening_target}
use Rattle.wdf_model.specs.State.{State, object_in, opening}
use Rattle.wdf_model.specs.Ids.{object_id}
use Rattle.wdf_model.specs.declared.deed.Deed.{Deed}
use Rattle.wdf_model.specs.declared.deed.Deed.TheVariants.{Arrive, CompleteRequest, CountArrival}
use Rattle.wdf_model.specs.rules.Deeds.{do_deed, do_deeds, give_up}
use Rattle.wdf_model.specs.rules.Posts.{arrival_answer, arrival_info, arrival_place, arriving, due_of, post_fits}
use Rattle.wdf_model.specs.rules.Steps.{after, deeds, did_deeds, is_own_event, may}
use Rattle.wdf_model.specs.rules.Ready.{IsRunOf, ready, state_after}
use Rattle.law_machine_base.specs.Fits.{is_given}
use Rattle.law_machine_base.specs.OverRuns.{CompletedOnce, PlacesAgree, arrives, completes, is_answer}
use Rattle.wdf_model.proofs.Runs.{along_run}
use Rattle.wdf_model.proofs.Tests.{both_left, both_right, itself}
use Rattle.wdf_model.proofs.Sames.{call_kind_decides, handle_same}
use Rattle.law_machine_base.proofs.Follows.{follows, state_goes_on}
use Rattle.law_machine_base.specs.FactsOfEvents.{IsTick}
use Rattle.law_machine_base.proofs.Deletion.{asking_deletes}
use Rattle.law_machine_base.proofs.OwnEvents.{IsDid, did_tells}
use Rattle.law_machine_base.proofs.FitsOfCalls.{outcome_fits}
use Rattle.law_machine_base.proofs.FitsOfEvents.{arrival_if_live, by_its_top, event_fits}
use Rattle.wdf_model.proofs.Counts.{count_behind, count_of_one}
use Rattle.law_machine_base.proofs.Kept.{arrived}
use Rattle.law_machine_base.proofs.KeptMoves.{arrived_within, request_here}
use Rattle.law_machine_base.proofs.KeptByDeeds.{KeptIn, came_by_place, closing_undone, came_by_kind, deed_keeps, deeds_keep, owned_of, owned_undone}
use Rattle.law_machine_base.proofs.Arrivals.{event_none, is_arrival_event}

-- ---- the opening

queues_open : (ids : List ℕ) (q : ℕ) → entry {T = List ℕ} [] (map (λ i. []) ids) q ≡ []
queues_open [] q = refl
queues_open (i ∷ ids) zero = refl
queues_open (i ∷ ids) (suc q) = queues_open ids q

target_opens : (plan : Plan) (t : Option TargetInfo) → (opening_target t).sent ≡ []
target_opens plan None = refl
target_opens plan (Some t) = refl

targets_open : (plan : Plan) (ids : List ℕ) (t : ℕ) → (entry no_target (map (λ i. opening_target (target_of plan i)) ids) t).sent ≡ []
targets_open plan [] t = refl
targets_open plan (i ∷ ids) zero = target_opens plan (target_of plan i)
targets_open plan (i ∷ ids) (suc t) = targets_open plan ids t

no_request_declared : (d : Declared) → same_kind (declared_node d).kind kind.Request ≡ false
no_request_declared declared.Driver = refl
no_request_declared _ = refl

none_declared : (ds : List Declared) (r : ℕ) → same_kind (entry gone (map declared_node ds) r).kind kind.Request ≡ false
none_declared [] r = refl
none_declared (d ∷ ds) zero = no_request_declared d
none_declared (d ∷ ds) (suc r) = none_declared ds r

none_at_opening : (plan : Plan) (r : ℕ) → same_kind (kind_of (opening_tree plan) r) kind.Request ≡ false
none_at_opening plan zero = refl
none_at_opening plan (suc r) = none_declared plan.declared r

opening_kept : {A : Type 0} (plan : Plan) (m : Meaning A) (F B : ℕ → Bool) → ((r : ℕ) → F r ≡ false) → KeptIn F B (opening plan m)
opening_kept plan m F B none = record {
  queued = λ q r. ap (λ (ws : List ℕ). count_by (λ x. x == r) ws) (queues_open (declared_ids plan) q);
  sent = λ t r. rw (targets_open plan (declared_ids plan) t) refl;
  room = omega arith;
  kinds = λ r h. absurd (let never = none_at_opening plan r in let z : ⊥ = cc in z);
  made = λ r h. refl;
  returns = λ t r h. rw (targets_open plan (declared_ids plan) t) refl;
  ended = λ r h. absurd (let never = none r in let z : ⊥ = cc in z);
  numbered = λ r h. absurd (let never = none r in let z : ⊥ = cc in z);
  begun = λ r h. absurd (let z : ⊥ = cc in z);
}

-- ---- what is told of more requests

told_more : {A : Type 0} {F B C : ℕ → Bool} (S : State A) → ((r : ℕ) → B r ≡ true → C r ≡ true) → KeptIn F B S → KeptIn F C S
told_more S more k = record { queued = k.queued; sent = k.sent; room = k.room; kinds = k.kinds; made = k.made; returns = k.returns; ended = k.ended; numbered = k.numbered; begun = λ r h. more r (k.begun r h) }

ended_more : {A : Type 0} {F G B : ℕ → Bool} (S : State A) → ((r : ℕ) → G r ≡ true → (is_done (place_of S.requests r) ≡ true) × (r < length S.tree.nodes)) → KeptIn F B S → KeptIn G B S
ended_more S more k = record { queued = k.queued; sent = k.sent; room = k.room; kinds = k.kinds; made = k.made; returns = k.returns; ended = λ r h. (more r h).0; numbered = λ r h. (more r h).1; begun = k.begun }

-- ---- arrivals

answered_by : {A : Type 0} (S : State A) (b : Bool) (answer : Option Handle) → same_option same_handle (if b then Some (arriving S) else None) answer ≡ true → b ≡ true
    → is_answer (next_id S.tree) answer ≡ true
answered_by S true (Some h) e live = let same : arriving S ≡ h = handle_same (arriving S) h e in subst (λ x. (x.id.0 == next_id S.tree) ≡ true) same (itself (next_id S.tree))
answered_by S true None e live = absurd (let z : ⊥ = cc in z)
answered_by S false answer e live = absurd (let z : ⊥ = cc in z)

arrival_keeps : {A : Type 0} {F B : ℕ → Bool} (plan : Plan) (S : State A) (agent : ℕ) (f : RequestForm) (length code device : ℕ) (b : Bool) → is_live (life_of S.tree device) ≡ b
    → (b ≡ true → B (next_id S.tree) ≡ true) → KeptIn F B S
    → KeptIn F B (do_deeds plan (CountArrival agent ∷ (if b then Arrive (object_id device) (arrival_info S agent f length code device) (arrival_place plan S f length device) ∷ [] else [])) S)
arrival_keeps plan S agent f length code device false e told k = k
arrival_keeps plan S agent f length code device true e told k =
    deed_keeps plan (Arrive (object_id device) (arrival_info S agent f length code device) (arrival_place plan S f length device)) (do_deed plan (CountArrival agent) S)
    (both_left _ true (arrival_if_live plan S agent f length code device true e)) (λ _. told refl) k

-- ---- completions

-- event e completes request r, whose place is now Done
pub record Completing {A : Type 0} (plan : Plan) (S : State A) (e : Event) (r : ℕ) : Type 0 where
  pub ready : (is_closing (place_of S.requests r) || is_given S r) ≡ true
  pub done : (do_deeds plan (deeds plan S e) S).requests ≡ requests.move_to S.requests r place.Done

complete_changes : {A : Type 0} (plan : Plan) (S : State A) (r : ℕ) → (do_deed plan (CompleteRequest (object_id r)) S).requests ≡ requests.move_to S.requests r place.Done
complete_changes {A} plan S r = ap (λ (T : State A). T.requests) (asking_deletes (record (give_up S r) { requests = requests.complete S.requests r }) r).rest

completing_call : {A : Type 0} (plan : Plan) (m : Meaning A) (S : State A) (k : Cpu) (n : ℕ) (a b x : Arg) (v : Value)
    → is_own_event plan m S k (event.Did k (record { kind = call.WdfRequestComplete; count = n; a = a; b = b; c = x }) v) ≡ true
    → Completing plan S (event.Did k (record { kind = call.WdfRequestComplete; count = n; a = a; b = b; c = x }) v) (object_in a)
completing_call {A} plan m S k n a b x v h =
    let d : IsDid plan S k.0 (record { kind = call.WdfRequestComplete; count = n; a = a; b = b; c = x }) v = did_tells plan m S k (record { kind = call.WdfRequestComplete; count = n; a = a; b = b; c = x }) v h in
    record {
      ready = both_left (is_closing (place_of S.requests (object_in a)) || is_given S (object_in a)) true (outcome_fits plan S k.0 d.frame call.WdfRequestComplete n a b x d.about.clean);
      done =
          ap (λ (ds : List Deed). (do_deeds plan ds S).requests) (by_its_top S k.0 d.frame (did_deeds plan S k.0 (record { kind = call.WdfRequestComplete; count = n; a = a; b = b; c = x }) v) d.about.top)
          ∙ complete_changes plan S (object_in a);
    }

completing_did : {A : Type 0} (plan : Plan) (m : Meaning A) (S : State A) (k : Cpu) (c : CallKind) → call.WdfRequestComplete ≡ c → (n : ℕ) (a b x : Arg) (v : Value)
    → is_own_event plan m S k (event.Did k (record { kind = c; count = n; a = a; b = b; c = x }) v) ≡ true
    → Completing plan S (event.Did k (record { kind = c; count = n; a = a; b = b; c = x }) v) (object_in a)
completing_did plan m S k c e =
    subst (λ (y : CallKind). (n : ℕ) (a b x : Arg) (v : Value) → is_own_event plan m S k (event.Did k (record { kind = y; count = n; a = a; b = b; c = x }) v) ≡ true
    → Completing plan S (event.Did k (record { kind = y; count = n; a = a; b = b; c = x }) v) (object_in a)) e (completing_call plan m S k)

pub completing : {A : Type 0} (plan : Plan) (m : Meaning A) (S : State A) (e : Event) (r : ℕ) → may plan m S e ≡ true → completes r e ≡ true → Completing plan S e r
completing plan m S (event.Did k c v) r h e =
    let kind_is : call.WdfRequestComplete ≡ c.kind = sym ((call_kind_decides c.kind call.WdfRequestComplete).0 (both_left (same_call_kind c.kind call.WdfRequestComplete) (object_in c.a == r) e)) in
    let it : object_in c.a ≡ r = eqb-true (object_in c.a) r (both_right (same_call_kind c.kind call.WdfRequestComplete) (object_in c.a == r) e) in
    subst (λ y. Completing plan S (event.Did k c v) y) it (completing_did plan m S k c.kind kind_is c.count c.a c.b c.c v h)
completing plan m S (event.Complete q s) r h e =
    let it : q.id.0 ≡ r = eqb-true q.id.0 r e in
    subst (λ y. Completing plan S (event.Complete q s) y) it
    (record {
      ready = both_left (is_closing (place_of S.requests q.id.0) || is_given S q.id.0) true (event_fits plan m S (event.Complete q s) h);
      done = complete_changes plan S q.id.0;
    })
completing plan m S _ r h e = absurd (let z : ⊥ = cc in z)

-- a request that is completed arrived, and wasn't Done
not_yet : {A : Type 0} {F B : ℕ → Bool} (plan : Plan) (S : State A) (e : Event) (r : ℕ) → Completing plan S e r → KeptIn F B S → (is_done (place_of S.requests r) ≡ false) × (arrived S.requests r ≡ true)
not_yet plan S e r c k = elim (or_cases (is_closing (place_of S.requests r)) (is_given S r) c.ready) [
  | inl h ↦ ((closing_undone (place_of S.requests r) h).0, came_by_place r k (closing_undone (place_of S.requests r) h).2)
  | inr h ↦ (owned_undone (place_of S.requests r) (owned_of S r h), came_by_kind S r k h)
]

-- ---- one event more

pub record History {A : Type 0} (run : List Event) (S : State A) : Type 0 where
  pub kept : KeptIn (λ r. nat_le 1 (count_by (completes r) run)) (λ r. list_any (arrives r) run) S
  pub once : (r : ℕ) → count_by (completes r) run ≤ 1

one_event_more : (p : Event → Bool) (run : List Event) (e : Event) → count_by p (run ++ e ∷ []) ≡ count_by p run + flag (p e)
one_event_more p run e = count_behind p run (e ∷ []) ∙ ap (λ n. count_by p run + n) (count_of_one p e)

told_before : (r : ℕ) (run : List Event) (e : Event) → list_any (arrives r) run ≡ true → list_any (arrives r) (run ++ e ∷ []) ≡ true
told_before r run e h = list_any-append (arrives r) run (e ∷ []) ∙ or_left (list_any (arrives r) run) (list_any (arrives r) (e ∷ [])) h

told_now : (r : ℕ) (run : List Event) (e : Event) → arrives r e ≡ true → list_any (arrives r) (run ++ e ∷ []) ≡ true
told_now r run e h = list_any-append (arrives r) run (e ∷ []) ∙ or_right (list_any (arrives r) run) (list_any (arrives r) (e ∷ [])) (or_left (arrives r e) false h)

arrival_event_keeps : {A : Type 0} {F B : ℕ → Bool} (plan : Plan) (m : Meaning A) (S : State A) (e : Event) → may plan m S e ≡ true → is_arrival_event e ≡ true
    → ((r : ℕ) → arrives r e ≡ true → B r ≡ true) → KeptIn F B S → KeptIn F B (do_deeds plan (deeds plan S e) S)
arrival_event_keeps plan m S (event.Posted agent (post.Read device length) answer) h a told k =
    arrival_keeps plan S agent form.Read length 0 device.id.0 (is_live (life_of S.tree device.id.0)) refl
    (λ live. told (next_id S.tree) (answered_by S (is_live (life_of S.tree device.id.0)) answer
    (both_right (same_option same_post (due_of m S agent) (Some (post.Read device length)) && post_fits plan S agent (post.Read device length)) (same_option same_handle (arrival_answer S device.id.0) answer) h) live)) k
arrival_event_keeps plan m S (event.Posted agent (post.Write device length) answer) h a told k =
    arrival_keeps plan S agent form.Write length 0 device.id.0 (is_live (life_of S.tree device.id.0)) refl
    (λ live. told (next_id S.tree) (answered_by S (is_live (life_of S.tree device.id.0)) answer
    (both_right (same_option same_post (due_of m S agent) (Some (post.Write device length)) && post_fits plan S agent (post.Write device length)) (same_option same_handle (arrival_answer S device.id.0) answer) h) live)) k
arrival_event_keeps plan m S (event.Posted agent (post.Control device code length) answer) h a told k =
    arrival_keeps plan S agent form.Control length code device.id.0 (is_live (life_of S.tree device.id.0)) refl
    (λ live. told (next_id S.tree) (answered_by S (is_live (life_of S.tree device.id.0)) answer
    (both_right (same_option same_post (due_of m S agent) (Some (post.Control device code length)) && post_fits plan S agent (post.Control device code length)) (same_option same_handle (arrival_answer S device.id.0) answer) h) live)) k
arrival_event_keeps plan m S _ h a told k = absurd (let z : ⊥ = cc in z)

pub event_keeps : {A : Type 0} {F B : ℕ → Bool} (plan : Plan) (m : Meaning A) (S : State A) (e : Event) → may plan m S e ≡ true
    → ((r : ℕ) → arrives r e ≡ true → B r ≡ true) → KeptIn F B S → KeptIn F B (do_deeds plan (deeds plan S e) S)
event_keeps plan m S e h told k = elim (cases_Bool (is_arrival_event e)) [
  | inl a ↦ arrival_event_keeps plan m S e h a told k
  | inr a ↦ deeds_keep plan (deeds plan S e) S (event_fits plan m S e h) (event_none plan S e a) k
]

-- what is completed by an event is Done, and numbered
ended_now : {A : Type 0} {F B : ℕ → Bool} (plan : Plan) (S T : State A) (e : Event) (r : ℕ) → do_deeds plan (deeds plan S e) S ≡ T → Completing plan S e r → KeptIn F B S → KeptIn F B T
    → (is_done (place_of T.requests r) ≡ true) × (r < length T.tree.nodes)
ended_now {A} plan S T e r same c k l =
    let changed : T.requests ≡ requests.move_to S.requests r place.Done = ap (λ (U : State A). U.requests) (sym same) ∙ c.done in
    let came : arrived T.requests r ≡ true =
    ap (λ (R : Requests). arrived R r) changed ∙ ap has_arrived (request_here S.requests r (moved place.Done)) ∙ (not_yet plan S e r c k).1 in
    let inside = arrived_within T.requests r came in
    let room = l.room in
    (ap (λ (R : Requests). is_done (place_of R r)) changed ∙ ap (λ (q : Request). is_done q.place) (request_here S.requests r (moved place.Done)), omega arith)

-- no completion so far, where one comes now
none_yet : {A : Type 0} {F B : ℕ → Bool} (plan : Plan) (S : State A) (e : Event) (r : ℕ) → Completing plan S e r → KeptIn F B S → F r ≡ false
none_yet {F = F} plan S e r c k = elim (cases_Bool (F r)) [
  | inl h ↦ absurd (let done_ = k.ended r h in let undone = (not_yet plan S e r c k).0 in let z : ⊥ = cc in z)
  | inr h ↦ h
]

not_one : (n : ℕ) → nat_le 1 n ≡ false → n ≡ 0
not_one n h = grind (arith, nat_tests)

no_more_by : (n c : ℕ) (b : Bool) → c ≡ n + flag b → b ≡ false → nat_le 1 c ≡ true → nat_le 1 n ≡ true
no_more_by n c b e f h = let same : c ≡ n = let g : flag b ≡ 0 = ap flag f in omega arith in subst (λ x. nat_le 1 x ≡ true) same h

step_of : {A : Type 0} (plan : Plan) (m : Meaning A) (run : List Event) (S : State A) (e : Event)
    → (KeptIn (λ r. nat_le 1 (count_by (completes r) run)) (λ r. list_any (arrives r) (run ++ e ∷ [])) S
    → KeptIn (λ r. nat_le 1 (count_by (completes r) run)) (λ r. list_any (arrives r) (run ++ e ∷ [])) (do_deeds plan (deeds plan S e) S))
    → ((r : ℕ) → completes r e ≡ true → Completing plan S e r) → History run S → History (run ++ e ∷ []) (after plan m S e)
step_of {A} plan m run S e keeps comp h =
    let before : KeptIn (λ r. nat_le 1 (count_by (completes r) run)) (λ r. list_any (arrives r) (run ++ e ∷ [])) S = told_more S (λ r x. told_before r run e x) h.kept in
    let later : KeptIn (λ r. nat_le 1 (count_by (completes r) run)) (λ r. list_any (arrives r) (run ++ e ∷ [])) (do_deeds plan (deeds plan S e) S) = keeps before in
    record {
      kept = ended_more (do_deeds plan (deeds plan S e) S)
          (λ r g. elim (cases_Bool (completes r e)) [
            | inl c ↦ ended_now plan S (do_deeds plan (deeds plan S e) S) e r refl (comp r c) before later
            | inr c ↦ let f : nat_le 1 (count_by (completes r) run) ≡ true = no_more_by (count_by (completes r) run) (count_by (completes r) (run ++ e ∷ [])) (completes r e) (one_event_more (completes r) run e) c g in (later.ended r f, later.numbered r f)
          ])
          later;
      once = λ r. elim (cases_Bool (completes r e)) [
        | inl c ↦
            let none : count_by (completes r) run ≡ 0 = not_one (count_by (completes r) run) (none_yet plan S e r (comp r c) h.kept) in
            let more = one_event_more (completes r) run e in
            let one : flag (completes r e) ≡ 1 = ap flag c in
            omega arith
        | inr c ↦
            let so_far = h.once r in
            let more = one_event_more (completes r) run e in
            let zero_ : flag (completes r e) ≡ 0 = ap flag c in
            omega arith
      ];
    }

step_by_may : {A : Type 0} (plan : Plan) (m : Meaning A) (run : List Event) (S : State A) (e : Event) → may plan m S e ≡ true → History run S → History (run ++ e ∷ []) (after plan m S e)
step_by_may plan m run S e h = step_of plan m run S e (event_keeps plan m S e h (λ r a. told_now r run e a)) (λ r c. completing plan m S e r h c)

step_by_tick : {A : Type 0} (plan : Plan) (m : Meaning A) (run : List Event) (S : State A) (time : ℕ) → History run S → History (run ++ event.Tick time ∷ []) (after plan m S (event.Tick time))
step_by_tick plan m run S time = step_of plan m run S (event.Tick time) (λ k. k) (λ r c. absurd (let z : ⊥ = cc in z))

step_by_either : {A : Type 0} (plan : Plan) (m : Meaning A) (run : List Event) (S : State A) (offered : List Event) (e : Event) → (may plan m S e ≡ true) ⊎ IsTick m S offered e
    → History run S → History (run ++ e ∷ []) (after plan m S e)
step_by_either plan m run S offered e (inl h) k = step_by_may plan m run S e h k
step_by_either plan m run S offered e (inr t) k = subst (λ x. History (run ++ x ∷ []) (after plan m S x)) (sym t.tick) (step_by_tick plan m run S (S.clock + 1) k)

-- ---- each place of a run

history_opens : {A : Type 0} (plan : Plan) (m : Meaning A) → History [] (state_after plan m [])
unfolding state_after
history_opens plan m = record { kept = opening_kept plan m (λ r. nat_le 1 (count_by (completes r) [])) (λ r. list_any (arrives r) []) (λ r. refl); once = λ r. omega arith }

pub history : {A : Type 0} (plan : Plan) (m : Meaning A) (run : List Event) → IsRunOf plan m run → (n : ℕ) → History (take n run) (state_after plan m (take n run))
history plan m run is_run n = along_run (λ es. History es (state_after plan m es)) (ready plan m) run (history_opens plan m)
    (λ before e place _ held at. subst (λ T. History (before ++ e ∷ []) T) (sym (state_goes_on plan m before e))
    (step_by_either plan m before (state_after plan m before) (ready plan m before) e (follows plan m before place e at) held))
    is_run n

take_all : {T : Type 0} (xs : List T) → take (length xs) xs ≡ xs
take_all [] = refl
take_all (x ∷ xs) = ap (λ ys. x ∷ ys) (take_all xs)

-- at the end of a run
pub history_now : {A : Type 0} (plan : Plan) (m : Meaning A) (run : List Event) → IsRunOf plan m run → History run (state_after plan m run)
history_now plan m run is_run = subst (λ es. History es (state_after plan m es)) (take_all run) (history plan m run is_run (length run))

-- ---- the laws

pub places_agree : {A : Type 0} (plan : Plan) (m : Meaning A) (run : List Event) → IsRunOf plan m run → (n : ℕ) → PlacesAgree (state_after plan m (take n run))
places_agree plan m run is_run n = let k = (history plan m run is_run n).kept in record { queued = k.queued; sent = k.sent }

comes_after : {A : Type 0} (plan : Plan) (m : Meaning A) (run : List Event) (k r : ℕ) (e : Event) → History (take k run) (state_after plan m (take k run))
    → (place : ℕ) × (slice_get (ready plan m (take k run)) place ≡ Some e) → completes r e ≡ true → list_any (arrives r) (take k run) ≡ true
comes_after plan m run k r e h at c = elim (follows plan m (take k run) at.0 e at.1) [
  | inl p ↦ h.kept.begun r (not_yet plan (state_after plan m (take k run)) e r (completing plan m (state_after plan m (take k run)) e r p c) h.kept).1
  | inr t ↦ absurd (let never : completes r e ≡ false = rw t.tick refl in let z : ⊥ = cc in z)
]

pub completed_once : {A : Type 0} (plan : Plan) (m : Meaning A) (run : List Event) → IsRunOf plan m run → CompletedOnce run
unfolding IsRun
completed_once plan m run is_run = record {
  once = (history_now plan m run is_run).once;
  after = λ k r e at c. comes_after plan m run k r e (history plan m run is_run k) (is_run k e at) c;
}

done_by : {A : Type 0} {F B : ℕ → Bool} (plan : Plan) (m : Meaning A) (S : State A) (offered : List Event) (e : Event) (r : ℕ) → (may plan m S e ≡ true) ⊎ IsTick m S offered e → KeptIn F B S
    → r < length S.tree.nodes → is_done (place_of S.requests r) ≡ true → is_done (place_of (after plan m S e).requests r) ≡ true
done_by plan m S offered e r (inl h) k inside d =
    let named : KeptIn (λ x. x == r) (λ _. true) S = told_more S (λ x _. refl) (ended_more S (λ x same. let it : x ≡ r = eqb-true x r same in rw it (d, inside)) k) in
    (event_keeps plan m S e h (λ x _. refl) named).ended r (itself r)
done_by plan m S offered e r (inr t) k inside d = subst (λ x. is_done (place_of (after plan m S x).requests r) ≡ true) (sym t.tick) d

-- what is Done stays Done
pub done_stays_done : {A : Type 0} (plan : Plan) (m : Meaning A) (run : List Event) (k : ℕ) (e : Event) (r : ℕ) → IsRunOf plan m run → slice_get (ready plan m run) k ≡ Some e
    → r < next_id (state_after plan m run).tree → is_done (place_of (state_after plan m run).requests r) ≡ true → is_done (place_of (state_after plan m (run ++ e ∷ [])).requests r) ≡ true
done_stays_done {A} plan m run k e r is_run at inside d =
    ap (λ (T : State A). is_done (place_of T.requests r)) (state_goes_on plan m run e)
    ∙ done_by plan m (state_after plan m run) (ready plan m run) e r (follows plan m run k e at) (history_now plan m run is_run).kept inside d
