-- Where no request is sent by a deed, none is at a target.
use Rattle.std.proofs.Common.{◌≡◌, ℕ, zero, suc, ◌==◌, Bool, true, false, not, List, [], ◌∷◌, inl, inr, Option, Some, None, count_by, map, refl, sym, ap, subst, ◌∙◌, arith}
use Rattle.std.specs.List.{list_all}
use Rattle.wdf_base.specs.Places.{is_sent, is_sent_to}
use Rattle.wdf_base.specs.declared.declared.TargetInfo.{TargetInfo}
use Rattle.wdf_base.specs.declared.object.Place.{Place}
use Rattle.wdf_base.specs.declared.object.Place.TheVariants as place
use Rattle.wdf_base.specs.declared.plan.Plan.{Plan}
use Rattle.wdf_model.specs.declared.entries.Sending.{Sending}
use Rattle.wdf_model.specs.declared.enums.Mode.TheVariants as mode
use Rattle.wdf_model.specs.Plans.{declared_ids, managed_queues, queues_of, target_of}
use Rattle.wdf_model.specs.Tables.{entry, flag}
use Rattle.wdf_model.specs.parts.Control as control
use Rattle.wdf_model.specs.parts.Queues.{waiting_in}
use Rattle.wdf_model.specs.parts.Requests.{place_of}
use Rattle.wdf_model.specs.parts.Requests as requests
use Rattle.wdf_model.specs.parts.Targets.{Target, Targets, no_target, opening_target, opening_targets, the_target, with_target}
use Rattle.wdf_model.specs.parts.Tree.{subtree}
use Rattle.wdf_model.specs.State.{State}
use Rattle.wdf_model.specs.declared.deed.Deed.{Deed}
use Rattle.wdf_model.specs.declared.deed.Deed.TheVariants.{Arrive, AskDeletion, CloseDevice, CloseReturning, ComeBack, CompleteRequest, FinishSending, Forward, GiveBack, PurgeQueue, Requeue, SendRequest, StartTarget, StopTarget}
use Rattle.wdf_model.specs.rules.Deeds.{do_deed, do_deeds, give_up}
use Rattle.wdf_model.proofs.Counts.{one_or_two}
use Rattle.wdf_model.proofs.Maps.{entry_put_other, entry_put_same}
use Rattle.wdf_model.proofs.Tests.{both_left, both_right, itself, not_true}
use Rattle.law_machine_base.specs.Fits.{all_fit, fits}
use Rattle.law_machine_base.proofs.KeptByDeeds.{deed_keeps}
use Rattle.law_machine_lives.proofs.Stays.{asks_all, gives_up, queues_closed, returns_closed, withdraws}
use Rattle.law_lint.proofs.Others.{Places}
use Rattle.law_machine_counts.proofs.Arrived.{arrived_targets}

-- no target has a request
abbrev pub NoneSent : Targets → Type 0
NoneSent T = (t : ℕ) → (the_target T t).sent ≡ []

sent_by : (p : Place) → is_sent p ≡ true → (w : ℕ) × (is_sent_to w p ≡ true)
sent_by (place.Sent w) h = (w.0, itself w.0)
sent_by _ h = absurd (let z : ⊥ = cc in z)

-- so no request is at one
pub none_there : {A : Type 0} (S : State A) → Places S → NoneSent S.targets → (x : ℕ) → is_sent (place_of S.requests x) ≡ false
none_there S k none x = by (is_sent (place_of S.requests x)) refl
  where
    by : (b : Bool) → is_sent (place_of S.requests x) ≡ b → b ≡ false
    by true e =
        let w = sent_by (place_of S.requests x) e in
        let listed = k.sent w.0 x in
        let nothing : count_by (λ (s : Sending). s.request.0 == x) (the_target S.targets w.0).sent ≡ 0 = ap (count_by (λ (s : Sending). s.request.0 == x)) (none w.0) in
        let one : flag (is_sent_to w.0 (place_of S.requests x)) ≡ 1 = ap flag w.1 in
        absurd (let z : ⊥ = omega arith in z)
    by false e = refl

-- ---- each deed

abbrev pub is_sending : Deed → Bool
is_sending (SendRequest r t forget) = true
is_sending _ = false

one_target : (T : Targets) (n : ℕ) (f : Target → Target) → (f (the_target T n)).sent ≡ (the_target T n).sent → NoneSent T → NoneSent (with_target T n f)
one_target T n f same none t = elim (one_or_two t n) [
  | inl e ↦ ap (λ (x : Target). x.sent) (ap (entry no_target (with_target T n f).targets) e ∙ entry_put_same no_target T.targets n (f (the_target T n))) ∙ same ∙ none n
  | inr x ↦ ap (λ (y : Target). y.sent) (entry_put_other no_target T.targets n t (f (the_target T n)) x) ∙ none t
]

same_none : (T O : Targets) → O ≡ T → NoneSent T → NoneSent O
same_none T O e none = subst NoneSent (sym e) none

deed_none : {A : Type 0} (plan : Plan) (d : Deed) (S : State A) → fits plan d S ≡ true → Places S → is_sending d ≡ false → NoneSent S.targets → NoneSent (do_deed plan d S).targets
deed_none plan (Arrive device info p) S f k off none = same_none S.targets _ (arrived_targets S device.0 info p) none
deed_none plan (AskDeletion o) S f k off none = same_none S.targets _ (asks_all (λ (T : State _). T.targets) (λ S T D W U. refl) (subtree S.tree o.0) S) none
deed_none plan (Requeue r q) S f k off none = same_none S.targets _ (gives_up (λ (T : State _). T.targets) (λ S Q R P. refl) S r.0) none
deed_none plan (Forward r q) S f k off none = same_none S.targets _ (gives_up (λ (T : State _). T.targets) (λ S Q R P. refl) S r.0) none
deed_none plan (GiveBack r q) S f k off none = same_none S.targets _ (gives_up (λ (T : State _). T.targets) (λ S Q R P. refl) S r.0) none
deed_none plan (SendRequest r t forget) S f k off none = absurd (let z : ⊥ = cc in z)
deed_none plan (FinishSending r s) S f k off none = absurd (let gone = none_there S k none r.0 in let is = both_left (is_sent (place_of S.requests r.0)) _ f in let z : ⊥ = cc in z)
deed_none plan (ComeBack r) S f k off none = absurd (let gone = none_there S k none r.0 in let is = both_left (is_sent (place_of S.requests r.0)) _ f in let z : ⊥ = cc in z)
deed_none plan (CompleteRequest r) S f k off none =
    same_none S.targets _ (asks_all (λ (T : State _). T.targets) (λ S T D W U. refl) (subtree (give_up S r.0).tree r.0) (record (give_up S r.0) { requests = requests.complete S.requests r.0 }) ∙ gives_up (λ (T : State _). T.targets) (λ S Q R P. refl) S r.0) none
deed_none plan (PurgeQueue q) S f k off none = same_none S.targets _ (withdraws (λ (T : State _). T.targets) (λ S Q R P. refl) plan q.0 (waiting_in S.queues q.0) (record S { control = control.set_mode S.control q.0 mode.Purged })) none
deed_none plan (CloseReturning d) S f k off none = same_none S.targets _ (returns_closed (λ (T : State _). T.targets) (λ S Q R P. refl) (managed_queues plan d.0) S) none
deed_none plan (CloseDevice d) S f k off none = same_none S.targets _ (queues_closed (λ (T : State _). T.targets) (λ S Q R P. refl) (queues_of plan d.0) (record S { control = control.shut S.control d.0 })) none
deed_none plan (StopTarget t) S f k off none = one_target S.targets t.0 (λ x. record x { stopped = true }) refl none
deed_none plan (StartTarget t) S f k off none = one_target S.targets t.0 (λ x. record x { stopped = false }) refl none
deed_none plan _ S f k off none = none

pub deeds_none : {A : Type 0} (plan : Plan) (ds : List Deed) (S : State A) → all_fit plan ds S ≡ true → Places S → list_all (λ d. not (is_sending d)) ds ≡ true → NoneSent S.targets → NoneSent (do_deeds plan ds S).targets
deeds_none plan [] S f k off none = none
deeds_none plan (d ∷ ds) S f k off none =
    let fit : fits plan d S ≡ true = both_left (fits plan d S) (all_fit plan ds (do_deed plan d S)) f in
    deeds_none plan ds (do_deed plan d S) (both_right (fits plan d S) (all_fit plan ds (do_deed plan d S)) f) (deed_keeps plan d S fit (λ _. refl) k)
    (both_right (not (is_sending d)) (list_all (λ x. not (is_sending x)) ds) off)
    (deed_none plan d S fit k (not_true (is_sending d) (both_left (not (is_sending d)) (list_all (λ x. not (is_sending x)) ds) off)) none)

-- ---- the opening

opened : (o : Option TargetInfo) → (opening_target o).sent ≡ []
opened None = refl
opened (Some i) = refl

all_opened : (plan : Plan) (ids : List ℕ) (t : ℕ) → (entry no_target (map (λ i. opening_target (target_of plan i)) ids) t).sent ≡ []
all_opened plan [] t = refl
all_opened plan (i ∷ ids) zero = opened (target_of plan i)
all_opened plan (i ∷ ids) (suc t) = all_opened plan ids t

pub none_opens : (plan : Plan) → NoneSent (opening_targets plan)
none_opens plan t = all_opened plan (declared_ids plan) t
