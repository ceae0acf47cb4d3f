-- The moves of a request that deeds make, each keeping what is held in step.
use Rattle.std.proofs.Common.{◌≡◌, ◌≢◌, ℕ, ◌==◌, ◌<◌, ◌≤◌, Bool, true, false, Option, Some, None, is_some, drop, length, count_by, option_and_then, refl, ap, sym, ◌∙◌, arith}
use Rattle.wdf_base.specs.declared.plan.Plan.{Plan}
use Rattle.wdf_base.specs.declared.value.Status.{Status}
use Rattle.wdf_base.specs.declared.object.Place.{Place}
use Rattle.wdf_base.specs.declared.object.Place.TheVariants as place
use Rattle.wdf_base.specs.declared.object.RequestInfo.{RequestInfo}
use Rattle.wdf_base.specs.Places.{is_owned, is_queued_in, is_returning_to, is_sent, is_sent_to}
use Rattle.wdf_model.specs.declared.entries.Request.{Request}
use Rattle.wdf_model.specs.declared.entries.Sending.{Sending}
use Rattle.wdf_model.specs.Tables.{flag, same_id}
use Rattle.wdf_model.specs.parts.Tree.{next_id}
use Rattle.wdf_model.specs.parts.Requests.{Requests, cancelled, moved, no_request, place_of, request_of, with_request}
use Rattle.wdf_model.specs.parts.Requests as requests
use Rattle.wdf_model.specs.parts.Queues.{Queues, front, held_count, waiting_in}
use Rattle.wdf_model.specs.parts.Queues as queues
use Rattle.wdf_model.specs.parts.Targets.{Targets, is_forgotten, is_forgotten_sending, routine_due, routine_outcome, sending_of}
use Rattle.wdf_model.specs.parts.Targets as targets
use Rattle.wdf_model.specs.parts.Power.{Power}
use Rattle.wdf_model.specs.State.{State, held_at}
use Rattle.wdf_model.specs.rules.Deeds.{finished_at, hold_power}
use Rattle.wdf_model.proofs.Maps.{entry_past, entry_put_other, entry_put_same, put_long}
use Rattle.wdf_model.proofs.Counts.{equal, flag_yes, front_leaves}
use Rattle.law_machine_base.proofs.Kept.{sends}
use Rattle.law_machine_base.proofs.KeptByDeeds.{KeptIn}
use Rattle.law_machine_base.proofs.KeptMoves.{request_here}
use Rattle.law_machine_counts.proofs.Forgotten.{back_other, done_itself, done_other, sent_itself, sent_other}
use Rattle.law_machine_counts.proofs.Holding.{Holds, HoldsIn, held_by, holder, holds_still}
use Rattle.law_machine_counts.proofs.Releases.{Released, given_up, one_more, taken}
use Rattle.law_machine_counts.proofs.HeldPlaces.{back_held, finished_held, from_queue, from_return, holder_elsewhere, holder_here, moved_away, put_inside, sent_held, unheld}

-- what holds of requests, lines, targets and the tree, for any completions and arrivals
abbrev pub Placed : {A : Type 0} → State A → Type 0
Placed S = KeptIn (λ _. false) (λ _. true) S

longer_with : (R : Requests) (r : ℕ) (f : Request → Request) → length R.all ≤ length (with_request R r f).all
longer_with R r f = put_long no_request R.all r (f (request_of R r))

inside_with : (R : Requests) (r : ℕ) (f : Request → Request) → r < length (with_request R r f).all
inside_with R r f = put_inside no_request R.all r (f (request_of R r))

-- ---- a mark changes

pub marks_hold : {plan : Plan} {R : Requests} {Q : Queues} {T : Targets} {P : Power} (r : ℕ) (f : Request → Request) → Holds plan R Q T P
    → ((forgotten : Bool) (q : Request) → held_by forgotten (f q) ≡ held_by forgotten q) → Holds plan (with_request R r f) Q T P
marks_hold {plan} {R} {Q} {T} {P} r f h same = holds_still h r (λ x n. holder_elsewhere R T r x f n) (holder_here R T r f ∙ same (is_forgotten T r) (request_of R r)) (longer_with R r f) (λ q. refl) (λ x. refl)

-- ---- a request that isn't held goes where it isn't held

pub away : {plan : Plan} {R : Requests} {Q Q' : Queues} {T : Targets} {P : Power} (r : ℕ) (p : Place) → Holds plan R Q T P → held_at (is_forgotten T r) (place_of R r) ≡ false
    → held_at (is_forgotten T r) p ≡ false → ((q : ℕ) → held_count Q' q ≡ held_count Q q) → Holds plan (requests.move_to R r p) Q' T P
away {plan} {R} {Q} {Q'} {T} {P} r p h old new queues =
    holds_still h r (λ x n. holder_elsewhere R T r x (moved p) n)
    (holder_here R T r (moved p) ∙ moved_away (is_forgotten T r) p (request_of R r) new ∙ sym (unheld (is_forgotten T r) (request_of R r) old))
    (longer_with R r (moved p)) queues (λ x. refl)

-- it is cancelled first
pub away_cancelled : {plan : Plan} {R : Requests} {Q Q' : Queues} {T : Targets} {P : Power} (r : ℕ) (p : Place) → Holds plan R Q T P → held_at (is_forgotten T r) (place_of R r) ≡ false
    → held_at (is_forgotten T r) p ≡ false → ((q : ℕ) → held_count Q' q ≡ held_count Q q) → Holds plan (requests.move_to (requests.cancel R r) r p) Q' T P
away_cancelled {plan} {R} {Q} {Q'} {T} {P} r p h old new queues =
    away r p (marks_hold r cancelled h (λ forgotten q. refl)) (ap (λ (q : Request). held_at (is_forgotten T r) q.place) (request_here R r cancelled) ∙ old) new queues

-- ---- a request is given up, and goes where it isn't held

pub gone_by : {A : Type 0} {plan : Plan} {Q' : Queues} (S U : State A) (r : ℕ) (p : Place) → HoldsIn plan S → Released S U r (holder S.requests S.targets r) → ((forgotten : Bool) → held_at forgotten p ≡ false)
    → ((q : ℕ) → held_count Q' q ≡ held_count U.queues q) → Holds plan (requests.move_to U.requests r p) Q' U.targets U.power
gone_by {A} {plan} {Q'} S U r p h g away_ queues = given_up {U = U} r h g
    (λ x n. holder_elsewhere U.requests U.targets r x (moved p) n ∙ ap (λ (R : Requests). holder R U.targets x) g.requests ∙ ap (λ (T : Targets). holder S.requests T x) g.targets)
    (inside_with U.requests r (moved p))
    (let longer = longer_with U.requests r (moved p) in let same : length U.requests.all ≡ length S.requests.all = ap (λ (R : Requests). length R.all) g.requests in omega arith)
    (holder_here U.requests U.targets r (moved p) ∙ moved_away (is_forgotten U.targets r) p (request_of U.requests r) (away_ (is_forgotten U.targets r)))
    queues

pub gone_cancelled : {A : Type 0} {plan : Plan} (S U : State A) (r : ℕ) (p : Place) → HoldsIn plan S → Released S U r (holder S.requests S.targets r) → ((forgotten : Bool) → held_at forgotten p ≡ false)
    → Holds plan (requests.move_to (requests.cancel U.requests r) r p) U.queues U.targets U.power
gone_cancelled {A} {plan} S U r p h g away_ = given_up {U = U} r h g
    (λ x n. holder_elsewhere (requests.cancel U.requests r) U.targets r x (moved p) n ∙ holder_elsewhere U.requests U.targets r x cancelled n
    ∙ ap (λ (R : Requests). holder R U.targets x) g.requests ∙ ap (λ (T : Targets). holder S.requests T x) g.targets)
    (inside_with (requests.cancel U.requests r) r (moved p))
    (let longer = longer_with (requests.cancel U.requests r) r (moved p) in let before = longer_with U.requests r cancelled in
    let same : length U.requests.all ≡ length S.requests.all = ap (λ (R : Requests). length R.all) g.requests in omega arith)
    (holder_here (requests.cancel U.requests r) U.targets r (moved p) ∙ moved_away (is_forgotten U.targets r) p (request_of (requests.cancel U.requests r) r) (away_ (is_forgotten U.targets r)))
    (λ q. refl)

-- a request that was given up is completed
pub completed : {A : Type 0} {plan : Plan} (S U : State A) (r : ℕ) → HoldsIn plan S → Released S U r (holder S.requests S.targets r) → Holds plan (requests.move_to S.requests r place.Done) U.queues U.targets U.power
completed {A} {plan} S U r h g = given_up {U = U} r h g
    (λ x n. holder_elsewhere S.requests U.targets r x (moved place.Done) n ∙ ap (λ (T : Targets). holder S.requests T x) g.targets)
    (inside_with S.requests r (moved place.Done))
    (longer_with S.requests r (moved place.Done))
    (holder_here S.requests U.targets r (moved place.Done))
    (λ q. refl)

-- ---- a request is taken from a queue

queued_at_front : {F B : ℕ → Bool} {A : Type 0} (S : State A) (q r : ℕ) → KeptIn F B S → same_id (front S.queues q) r ≡ true → is_queued_in q (place_of S.requests r) ≡ true
queued_at_front S q r k h =
    let e = front_leaves r r (waiting_in S.queues q) h in
    let yes : flag (r == r) ≡ 1 = ap flag (equal r r refl) in
    let is = k.queued q r in
    flag_yes (is_queued_in q (place_of S.requests r)) (count_by (λ x. x == r) (drop 1 (waiting_in S.queues q))) (omega arith)

pub presented : {A : Type 0} {plan : Plan} (S : State A) (q r : ℕ) → Placed S → HoldsIn plan S → same_id (front S.queues q) r ≡ true
    → Holds plan (requests.move_to S.requests r place.Owned) (queues.take S.queues q) S.targets (hold_power plan S.power r q)
presented {A} {plan} S q r k h f =
    let parts = from_queue (is_forgotten S.targets r) q (request_of S.requests r) (place_of S.requests r) refl (queued_at_front S q r k f) in
    taken q r h (λ x n. holder_elsewhere S.requests S.targets r x (moved place.Owned) n) (inside_with S.requests r (moved place.Owned)) (longer_with S.requests r (moved place.Owned))
    parts.0 (holder_here S.requests S.targets r (moved place.Owned) ∙ parts.1)
    (λ p. one_more S.queues q p)

pub received : {A : Type 0} {plan : Plan} (S : State A) (q r : ℕ) → HoldsIn plan S → is_returning_to q (place_of S.requests r) ≡ true
    → Holds plan (requests.move_to S.requests r place.Owned) (queues.hold S.queues q) S.targets (hold_power plan S.power r q)
received {A} {plan} S q r h f =
    let parts = from_return (is_forgotten S.targets r) q (request_of S.requests r) (place_of S.requests r) refl f in
    taken q r h (λ x n. holder_elsewhere S.requests S.targets r x (moved place.Owned) n) (inside_with S.requests r (moved place.Owned)) (longer_with S.requests r (moved place.Owned))
    parts.0 (holder_here S.requests S.targets r (moved place.Owned) ∙ parts.1)
    (λ p. one_more S.queues q p)

-- ---- targets

owned_unsent : (t : ℕ) (p : Place) → is_owned p ≡ true → is_sent_to t p ≡ false
owned_unsent t (place.Sent u) h = absurd (let z : ⊥ = cc in z)
owned_unsent t _ h = refl

nowhere_sent : {A : Type 0} (S : State A) (r : ℕ) → Placed S → is_owned (place_of S.requests r) ≡ true → (u : ℕ) → sends S.targets u r ≡ 0
nowhere_sent S r k owned u = k.sent u r ∙ ap flag (owned_unsent u (place_of S.requests r) owned)

-- both the place and the targets change
moves_elsewhere : (R : Requests) (T T' : Targets) (r x : ℕ) (p : Place) → is_forgotten T' x ≡ is_forgotten T x → x ≢ r → holder (requests.move_to R r p) T' x ≡ holder R T x
moves_elsewhere R T T' r x p same n = holder_elsewhere R T' r x (moved p) n ∙ ap (λ b. held_by b (request_of R x)) same

-- it is sent, and comes back
pub sent_to_return : {A : Type 0} {plan : Plan} (S : State A) (r t : ℕ) → Placed S → HoldsIn plan S → is_owned (place_of S.requests r) ≡ true
    → Holds plan (requests.move_to S.requests r (place.Sent (record { 0 = t }))) S.queues (targets.send S.targets t r false) S.power
sent_to_return {A} {plan} S r t k h owned = holds_still h r
    (λ x n. moves_elsewhere S.requests S.targets (targets.send S.targets t r false) r x (place.Sent (record { 0 = t })) (sent_other S.targets t r x false n) n)
    (holder_here S.requests (targets.send S.targets t r false) r (moved (place.Sent (record { 0 = t })))
    ∙ ap (λ b. held_by b (moved (place.Sent (record { 0 = t })) (request_of S.requests r))) (sent_itself S.targets t r false (nowhere_sent S r k owned))
    ∙ sent_held (is_forgotten S.targets r) t (request_of S.requests r) (place_of S.requests r) refl owned)
    (longer_with S.requests r (moved (place.Sent (record { 0 = t })))) (λ q. refl) (λ x. refl)

-- it is sent and forgotten, and was given up
pub sent_for_good : {A : Type 0} {plan : Plan} (S U : State A) (r t : ℕ) → Placed S → HoldsIn plan S → Released S U r (holder S.requests S.targets r) → is_owned (place_of S.requests r) ≡ true
    → Holds plan (requests.move_to U.requests r (place.Sent (record { 0 = t }))) U.queues (targets.send S.targets t r true) U.power
sent_for_good {A} {plan} S U r t k h g owned = given_up {U = U} r h g
    (λ x n. moves_elsewhere U.requests S.targets (targets.send S.targets t r true) r x (place.Sent (record { 0 = t })) (sent_other S.targets t r x true n) n ∙ ap (λ (R : Requests). holder R S.targets x) g.requests)
    (inside_with U.requests r (moved (place.Sent (record { 0 = t }))))
    (let longer = longer_with U.requests r (moved (place.Sent (record { 0 = t }))) in let same : length U.requests.all ≡ length S.requests.all = ap (λ (R : Requests). length R.all) g.requests in omega arith)
    (holder_here U.requests (targets.send S.targets t r true) r (moved (place.Sent (record { 0 = t })))
    ∙ ap (λ b. held_by b (moved (place.Sent (record { 0 = t })) (request_of U.requests r))) (sent_itself S.targets t r true (nowhere_sent S r k owned)))
    (λ q. refl)

-- its target is done with it
pub finished : {A : Type 0} {plan : Plan} (S : State A) (r : ℕ) (s : Status) → HoldsIn plan S → is_sent (place_of S.requests r) ≡ true
    → Holds plan (requests.move_to S.requests r (finished_at (is_forgotten S.targets r) s (place_of S.requests r))) S.queues (targets.done S.targets r s) S.power
finished {A} {plan} S r s h f =
    let p : Place = finished_at (is_forgotten S.targets r) s (place_of S.requests r) in
    holds_still h r
    (λ x n. moves_elsewhere S.requests S.targets (targets.done S.targets r s) r x p (done_other S.targets r x s n) n)
    (holder_here S.requests (targets.done S.targets r s) r (moved p)
    ∙ finished_held (is_forgotten S.targets r) (is_forgotten (targets.done S.targets r s) r) s (request_of S.requests r) (place_of S.requests r) refl f (done_itself S.targets r s))
    (longer_with S.requests r (moved p)) (λ q. refl) (λ x. refl)

comes_by : (s : Sending) (b : Bool) → s.forgotten ≡ b → is_some (routine_outcome s) ≡ true → b ≡ false
comes_by s true e h = absurd (let k : false ≡ true = rw e at h in let z : ⊥ = cc in z)
comes_by s false e h = refl

remembers : (o : Option Sending) → is_some (option_and_then routine_outcome o) ≡ true → is_forgotten_sending o ≡ false
remembers None h = refl
remembers (Some s) h = comes_by s s.forgotten refl h

-- it comes back
pub came_back : {A : Type 0} {plan : Plan} (S : State A) (r : ℕ) → HoldsIn plan S → is_sent (place_of S.requests r) ≡ true → is_some (routine_due S.targets r) ≡ true
    → Holds plan (requests.move_to S.requests r place.Owned) S.queues (targets.back S.targets r) S.power
came_back {A} {plan} S r h f due = holds_still h r
    (λ x n. moves_elsewhere S.requests S.targets (targets.back S.targets r) r x place.Owned (back_other S.targets r x n) n)
    (holder_here S.requests (targets.back S.targets r) r (moved place.Owned)
    ∙ back_held (is_forgotten (targets.back S.targets r) r) (is_forgotten S.targets r) (request_of S.requests r) (place_of S.requests r) refl f (remembers (sending_of S.targets r) due))
    (longer_with S.requests r (moved place.Owned)) (λ q. refl) (λ x. refl)

-- ---- a request comes into being

pub entered_unheld : {A : Type 0} {plan : Plan} {Q' : Queues} (S : State A) (p : Place) (info : RequestInfo) → Placed S → HoldsIn plan S
    → ((forgotten : Bool) → held_by forgotten (record { place = p; info = info }) ≡ None) → ((q : ℕ) → held_count Q' q ≡ held_count S.queues q)
    → Holds plan (requests.arrive S.requests (next_id S.tree) p info) Q' S.targets S.power
entered_unheld {A} {plan} {Q'} S p info k h none queues =
    let r : ℕ = next_id S.tree in
    let fresh : request_of S.requests r ≡ no_request = entry_past no_request S.requests.all r k.room in
    let here : request_of (requests.arrive S.requests r p info) r ≡ record { place = p; info = info } = entry_put_same no_request S.requests.all r (record { place = p; info = info }) in
    holds_still h r
    (λ x n. ap (held_by (is_forgotten S.targets x)) (entry_put_other no_request S.requests.all r x (record { place = p; info = info }) n))
    (ap (held_by (is_forgotten S.targets r)) here ∙ none (is_forgotten S.targets r) ∙ sym (ap (held_by (is_forgotten S.targets r)) fresh))
    (put_long no_request S.requests.all r (record { place = p; info = info })) queues (λ x. refl)
