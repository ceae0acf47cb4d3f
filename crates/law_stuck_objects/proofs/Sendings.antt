-- What each target has of what was sent to it: each deed keeps that one which doesn't come back isn't done, and that only a
-- target of the plan has any depth.
use Rattle.std.proofs.Common.{◌≡◌, ℕ, ◌==◌, nat_lt, Bool, true, false, not, ◌&&◌, ◌||◌, List, [], ◌∷◌, inl, inr, is_some, filter, map, refl, sym, ap, subst, ◌∙◌}
use Rattle.std.specs.List.{list_all}
use Rattle.wdf_base.specs.declared.plan.Plan.{Plan}
use Rattle.wdf_base.specs.declared.value.Status.{Status}
use Rattle.wdf_model.specs.declared.enums.Mode.TheVariants as mode
use Rattle.wdf_model.specs.declared.entries.Sending.{Sending}
use Rattle.wdf_model.specs.Plans.{managed_queues, queues_of, target_of}
use Rattle.wdf_model.specs.parts.Tree.{subtree}
use Rattle.wdf_model.specs.parts.Control as control
use Rattle.wdf_model.specs.parts.Queues.{waiting_in}
use Rattle.wdf_model.specs.parts.Requests as requests
use Rattle.wdf_model.specs.parts.Targets.{Target, Targets, done_sending, is_at_target, new_sending, no_target, sending_in_order, target_done, the_target, with_target, without_sending}
use Rattle.wdf_model.specs.State.{State}
use Rattle.wdf_model.specs.declared.deed.Deed.{Deed}
use Rattle.wdf_model.specs.declared.deed.Deed.TheVariants.{Arrive, AskDeletion, CloseDevice, CloseReturning, ComeBack, CompleteRequest, FinishSending, Forward, GiveBack, PurgeQueue, Requeue, SendRequest, StartTarget, StopTarget}
use Rattle.wdf_model.specs.rules.Deeds.{do_deed, give_up}
use Rattle.wdf_model.proofs.Tests.{both, both_left, both_right}
use Rattle.wdf_model.proofs.Maps.{entry_map}
use Rattle.wdf_model.proofs.Counts.{done_asks, left_over, one_or_two}
use Rattle.law_machine_base.proofs.KeptMoves.{target_elsewhere, target_here}
use Rattle.law_machine_lives.proofs.Stays.{asks_all, gives_up, queues_closed, returns_closed, withdraws}
use Rattle.law_machine_counts.proofs.Arrived.{arrived_targets}

-- ---- the deeds that leave the targets alone

abbrev pub is_of_targets : Deed → Bool
is_of_targets (SendRequest r t forget) = true
is_of_targets (FinishSending r s) = true
is_of_targets (ComeBack r) = true
is_of_targets (StopTarget t) = true
is_of_targets (StartTarget t) = true
is_of_targets _ = false

abbrev targets_in : {A : Type 0} → State A → Targets
targets_in S = S.targets

pub targets_stay : {A : Type 0} (plan : Plan) (d : Deed) (S : State A) → is_of_targets d ≡ false → (do_deed plan d S).targets ≡ S.targets
targets_stay plan (SendRequest r t forget) S off = absurd (let z : ⊥ = cc in z)
targets_stay plan (FinishSending r s) S off = absurd (let z : ⊥ = cc in z)
targets_stay plan (ComeBack r) S off = absurd (let z : ⊥ = cc in z)
targets_stay plan (StopTarget t) S off = absurd (let z : ⊥ = cc in z)
targets_stay plan (StartTarget t) S off = absurd (let z : ⊥ = cc in z)
targets_stay plan (Arrive device info p) S off = arrived_targets S device.0 info p
targets_stay plan (AskDeletion o) S off = asks_all targets_in (λ S T D W U. refl) (subtree S.tree o.0) S
targets_stay plan (Requeue r q) S off = gives_up targets_in (λ S Q R P. refl) S r.0
targets_stay plan (Forward r q) S off = gives_up targets_in (λ S Q R P. refl) S r.0
targets_stay plan (GiveBack r q) S off = gives_up targets_in (λ S Q R P. refl) S r.0
targets_stay plan (CompleteRequest r) S off =
    asks_all targets_in (λ S T D W U. refl) (subtree (give_up S r.0).tree r.0) (record (give_up S r.0) { requests = requests.complete S.requests r.0 }) ∙ gives_up targets_in (λ S Q R P. refl) S r.0
targets_stay plan (PurgeQueue q) S off = withdraws targets_in (λ S Q R P. refl) plan q.0 (waiting_in S.queues q.0) (record S { control = control.set_mode S.control q.0 mode.Purged })
targets_stay plan (CloseReturning d) S off = returns_closed targets_in (λ S Q R P. refl) (managed_queues plan d.0) S
targets_stay plan (CloseDevice d) S off = queues_closed targets_in (λ S Q R P. refl) (queues_of plan d.0) (record S { control = control.shut S.control d.0 })
targets_stay plan _ S off = refl

-- ---- one target, or all

-- one target changes
pub one_target : (P : ℕ → Target → Type 0) (T : Targets) (t : ℕ) (f : Target → Target) → P t (f (the_target T t)) → ((u : ℕ) → P u (the_target T u)) → (u : ℕ) → P u (the_target (with_target T t f) u)
one_target P T t f new k u = elim (one_or_two u t) [
  | inl e ↦ subst (λ x. P x (the_target (with_target T t f) x)) (sym e) (subst (P t) (sym (target_here T t f)) new)
  | inr n ↦ subst (P u) (sym (target_elsewhere T t u f n)) (k u)
]

-- all do
pub all_targets : (P : ℕ → Target → Type 0) (T : Targets) (g : Target → Target) → g no_target ≡ no_target → ((u : ℕ) (x : Target) → P u x → P u (g x)) → ((u : ℕ) → P u (the_target T u)) → (u : ℕ) → P u (the_target (record { targets = map g T.targets }) u)
all_targets P T g blank each k u = subst (P u) (sym (entry_map no_target T.targets g u blank)) (each u (the_target T u) (k u))

-- ---- a target

-- one that comes back, or with which the target isn't done
abbrev pub comes_or_waits : Sending → Bool
comes_or_waits s = not s.forgotten || is_at_target s.outcome

pub record IsFair (plan : Plan) (t : ℕ) (x : Target) : Type 0 where
  pub depth : is_some (target_of plan t) ≡ false → x.depth ≡ 0
  pub sent : list_all comes_or_waits x.sent ≡ true

either_waits : (b : Bool) → (not b || true) ≡ true
either_waits true = refl
either_waits false = refl

sent_by : (s x : Sending) (xs : List Sending) (b : Bool) → nat_lt s.request.0 x.request.0 ≡ b → comes_or_waits s ≡ true → list_all comes_or_waits (x ∷ xs) ≡ true → list_all comes_or_waits (sending_in_order s xs) ≡ true
    → list_all comes_or_waits (sending_in_order s (x ∷ xs)) ≡ true
sent_by s x xs true e h k rest = rw e (both (comes_or_waits s) (list_all comes_or_waits (x ∷ xs)) h k)
sent_by s x xs false e h k rest = rw e (both (comes_or_waits x) (list_all comes_or_waits (sending_in_order s xs)) (both_left (comes_or_waits x) (list_all comes_or_waits xs) k) rest)

one_more : (s : Sending) (xs : List Sending) → comes_or_waits s ≡ true → list_all comes_or_waits xs ≡ true → list_all comes_or_waits (sending_in_order s xs) ≡ true
one_more s [] h k = both (comes_or_waits s) true h refl
one_more s (x ∷ xs) h k = sent_by s x xs (nat_lt s.request.0 x.request.0) refl h k (one_more s xs h (both_right (comes_or_waits x) (list_all comes_or_waits xs) k))

kept_by : (keep : Sending → Bool) (x : Sending) (xs : List Sending) (b : Bool) → keep x ≡ b → comes_or_waits x ≡ true → list_all comes_or_waits (filter keep xs) ≡ true → list_all comes_or_waits (filter keep (x ∷ xs)) ≡ true
kept_by keep x xs true e h rest = rw e (both (comes_or_waits x) (list_all comes_or_waits (filter keep xs)) h rest)
kept_by keep x xs false e h rest = rw e rest

fewer : (keep : Sending → Bool) (xs : List Sending) → list_all comes_or_waits xs ≡ true → list_all comes_or_waits (filter keep xs) ≡ true
fewer keep [] h = h
fewer keep (x ∷ xs) h = kept_by keep x xs (keep x) refl (both_left (comes_or_waits x) (list_all comes_or_waits xs) h) (fewer keep xs (both_right (comes_or_waits x) (list_all comes_or_waits xs) h))

left_by : (r : ℕ) (s : Status) (x : Sending) (xs : List Sending) (b f : Bool) → (x.request.0 == r) ≡ b → x.forgotten ≡ f → comes_or_waits x ≡ true → list_all comes_or_waits (left_over r s xs) ≡ true
    → list_all comes_or_waits (left_over r s (x ∷ xs)) ≡ true
left_by r s x xs true true e k h rest =
    let gone : (not ((done_sending r s x).request.0 == r && (done_sending r s x).forgotten)) ≡ false = rw ((done_asks r s x).0, (done_asks r s x).1, e, k) refl in
    rw gone rest
left_by r s x xs true false e k h rest =
    let stays : (not ((done_sending r s x).request.0 == r && (done_sending r s x).forgotten)) ≡ true = rw ((done_asks r s x).0, (done_asks r s x).1, e, k) refl in
    let comes : comes_or_waits (done_sending r s x) ≡ true = rw ((done_asks r s x).1, k) refl in
    rw stays (both (comes_or_waits (done_sending r s x)) (list_all comes_or_waits (left_over r s xs)) comes rest)
left_by r s x xs false f e k h rest =
    let stays : (not ((done_sending r s x).request.0 == r && (done_sending r s x).forgotten)) ≡ true = rw ((done_asks r s x).0, e) refl in
    let same : done_sending r s x ≡ x = rw e refl in
    rw stays (both (comes_or_waits (done_sending r s x)) (list_all comes_or_waits (left_over r s xs)) (ap comes_or_waits same ∙ h) rest)

-- the target is done with one
one_done : (r : ℕ) (s : Status) (xs : List Sending) → list_all comes_or_waits xs ≡ true → list_all comes_or_waits (left_over r s xs) ≡ true
one_done r s [] h = h
one_done r s (x ∷ xs) h =
    left_by r s x xs (x.request.0 == r) x.forgotten refl refl (both_left (comes_or_waits x) (list_all comes_or_waits xs) h) (one_done r s xs (both_right (comes_or_waits x) (list_all comes_or_waits xs) h))

-- ---- each deed

abbrev pub AllFair : Plan → Targets → Type 0
AllFair plan T = (t : ℕ) → IsFair plan t (the_target T t)

pub fair_by : {A : Type 0} (plan : Plan) (d : Deed) (S : State A) → AllFair plan S.targets → AllFair plan (do_deed plan d S).targets
fair_by plan (SendRequest r t forget) S k =
    one_target (IsFair plan) S.targets t.0 (λ x. record x { sent = sending_in_order (new_sending r.0 forget) x.sent })
    (let it = k t.0 in record { depth = it.depth; sent = one_more (new_sending r.0 forget) (the_target S.targets t.0).sent (either_waits forget) it.sent }) k
fair_by plan (FinishSending r s) S k =
    all_targets (IsFair plan) S.targets (target_done r.0 s) refl (λ u x it. record { depth = it.depth; sent = one_done r.0 s x.sent it.sent }) k
fair_by plan (ComeBack r) S k =
    all_targets (IsFair plan) S.targets (without_sending r.0) refl (λ u x it. record { depth = it.depth; sent = fewer (λ s. not (s.request.0 == r.0)) x.sent it.sent }) k
fair_by plan (StopTarget t) S k = one_target (IsFair plan) S.targets t.0 (λ x. record x { stopped = true }) (let it = k t.0 in record { depth = it.depth; sent = it.sent }) k
fair_by plan (StartTarget t) S k = one_target (IsFair plan) S.targets t.0 (λ x. record x { stopped = false }) (let it = k t.0 in record { depth = it.depth; sent = it.sent }) k
fair_by plan d S k = subst (AllFair plan) (sym (targets_stay plan d S refl)) k
