-- What each target has and isn't done with: the deeds that change it.
use Rattle.std.proofs.Common.{◌≡◌, ◌≢◌, ℕ, suc, ◌==◌, ◌≤◌, Bool, true, false, ◌&&◌, List, [], ◌∷◌, ◌⊎◌, inl, inr, map, count_by, refl, sym, ap, subst, ◌∙◌, arith}
use Rattle.std.specs.List.{list_all}
use Rattle.std.proofs.lemmas.Bool.{and_left}
use Rattle.wdf_base.specs.declared.plan.Plan.{Plan}
use Rattle.wdf_base.specs.declared.value.Status.{Status}
use Rattle.wdf_model.specs.declared.entries.Sending.{Sending}
use Rattle.wdf_model.specs.Tables.{flag}
use Rattle.wdf_model.specs.parts.Targets.{Target, Targets, done_sending, is_at_target, new_sending, no_target, sending_in_order, target_done, the_target, with_target, without_sending}
use Rattle.wdf_model.specs.parts.Targets as targets
use Rattle.wdf_model.specs.State.{State}
use Rattle.wdf_model.specs.declared.deed.Deed.{Deed}
use Rattle.wdf_model.specs.declared.deed.Deed.TheVariants.{ComeBack, FinishSending, SendRequest, StartTarget, StopTarget}
use Rattle.wdf_model.specs.rules.Deeds.{do_deed, do_deeds}
use Rattle.wdf_model.proofs.Tests.{both_left, both_right}
use Rattle.wdf_model.proofs.Maps.{entry_map}
use Rattle.wdf_model.proofs.Counts.{by_request, differs, equal, one_is_sent, one_or_two, others_left, others_stay_sent}
use Rattle.law_machine_base.proofs.KeptMoves.{target_elsewhere, target_here}
use Rattle.law_stuck_objects.proofs.Sendings.{targets_stay}
use Rattle.law_machine_base.proofs.KeptTargets.{back_at, left_at}

-- ---- counts

-- a sending of this request, with which its target isn't done
abbrev pub waits_at : ℕ → Sending → Bool
waits_at r s = s.request.0 == r && is_at_target s.outcome

-- how many there are of a request at a target
abbrev pub undone : Targets → ℕ → ℕ → ℕ
undone T t r = count_by (waits_at r) (the_target T t).sent

-- ---- one is sent

new_waits : (r : ℕ) (forget : Bool) → flag (waits_at r (new_sending r forget)) ≡ 1
new_waits r forget = ap flag (ap (λ b. b && true) (equal r r refl))

pub sent_more : (T : Targets) (t r : ℕ) (forget : Bool) → undone (targets.send T t r forget) t r ≡ suc (undone T t r)
sent_more T t r forget =
    ap (λ (y : Target). count_by (waits_at r) y.sent) (target_here T t (λ y. record y { sent = sending_in_order (new_sending r forget) y.sent }))
    ∙ one_is_sent (waits_at r) (new_sending r forget) (the_target T t).sent
    ∙ (let e = new_waits r forget in omega arith)

sent_keeps_by : (T : Targets) (t r u x : ℕ) (forget : Bool) → (u ≡ t) ⊎ (u ≢ t) → undone T u x ≤ undone (targets.send T t r forget) u x
sent_keeps_by T t r u x forget (inl same) =
    let here = ap (λ (y : Target). count_by (waits_at x) y.sent) (target_here T t (λ y. record y { sent = sending_in_order (new_sending r forget) y.sent })) in
    let one = one_is_sent (waits_at x) (new_sending r forget) (the_target T t).sent in
    rw same (omega arith)
sent_keeps_by T t r u x forget (inr other) =
    let e = ap (λ (y : Target). count_by (waits_at x) y.sent) (target_elsewhere T t u (λ y. record y { sent = sending_in_order (new_sending r forget) y.sent }) other) in
    omega arith

-- ---- the target is done with one, and one comes back

other_outcome : (r x : ℕ) (status : Status) → x ≢ r → (s : Sending) (b : Bool) → (s.request.0 == r) ≡ b → waits_at x (done_sending r status s) ≡ waits_at x s
other_outcome r x status n s true e =
    let off : (s.request.0 == x) ≡ false = differs s.request.0 r x e (λ f. n (sym f)) in
    let off_too : ((done_sending r status s).request.0 == x) ≡ false = by_request x r status s ∙ off in
    ap (λ b. b && is_at_target (done_sending r status s).outcome) off_too ∙ sym (ap (λ b. b && is_at_target s.outcome) off)
other_outcome r x status n s false e = rw e refl

pub done_others : (T : Targets) (r x u : ℕ) (status : Status) → x ≢ r → undone (targets.done T r status) u x ≡ undone T u x
done_others T r x u status n =
    ap (count_by (waits_at x)) (left_at T r status u)
    ∙ others_left (waits_at x) r status (the_target T u).sent (λ s. other_outcome r x status n s (s.request.0 == r) refl)
    (λ s e. and_left (s.request.0 == x) (is_at_target s.outcome) (differs s.request.0 r x e (λ f. n (sym f))))

pub back_others : (T : Targets) (r x u : ℕ) → x ≢ r → undone (targets.back T r) u x ≡ undone T u x
back_others T r x u n =
    ap (count_by (waits_at x)) (back_at T r u)
    ∙ others_stay_sent (waits_at x) r (the_target T u).sent (λ s e. and_left (s.request.0 == x) (is_at_target s.outcome) (differs s.request.0 r x e (λ f. n (sym f))))

-- ---- each deed

-- a target keeps its sendings, or all targets do
one_stays : (P : Target → Type 0) (T : Targets) (t : ℕ) (f : Target → Target) (u : ℕ) → ((x : Target) → P x → P (f x)) → P (the_target T u) → P (the_target (with_target T t f) u)
one_stays P T t f u each k = elim (one_or_two u t) [
  | inl e ↦ subst (λ x. P (the_target (with_target T t f) x)) (sym e) (subst P (sym (target_here T t f)) (each (the_target T t) (subst (λ x. P (the_target T x)) e k)))
  | inr n ↦ subst P (sym (target_elsewhere T t u f n)) k
]

all_stay : (P : Target → Type 0) (T : Targets) (g : Target → Target) (u : ℕ) → g no_target ≡ no_target → ((x : Target) → P x → P (g x)) → P (the_target T u) → P (the_target (record { targets = map g T.targets }) u)
all_stay P T g u blank each k = subst P (sym (entry_map no_target T.targets g u blank)) (each (the_target T u) k)

-- a deed that neither ends a sending nor takes one back
abbrev pub is_calm : Deed → Bool
is_calm (FinishSending r s) = false
is_calm (ComeBack r) = false
is_calm _ = true

pub undone_stays : {A : Type 0} (plan : Plan) (d : Deed) (S : State A) (t x : ℕ) → is_calm d ≡ true → undone S.targets t x ≤ undone (do_deed plan d S).targets t x
undone_stays plan (FinishSending r s) S t x h = absurd (let z : ⊥ = cc in z)
undone_stays plan (ComeBack r) S t x h = absurd (let z : ⊥ = cc in z)
undone_stays plan (SendRequest r u forget) S t x h = sent_keeps_by S.targets u.0 r.0 t x forget (one_or_two t u.0)
undone_stays plan (StopTarget u) S t x h =
    one_stays (λ y. undone S.targets t x ≤ count_by (waits_at x) y.sent) S.targets u.0 (λ y. record y { stopped = true }) t (λ y k. k) (omega arith)
undone_stays plan (StartTarget u) S t x h =
    one_stays (λ y. undone S.targets t x ≤ count_by (waits_at x) y.sent) S.targets u.0 (λ y. record y { stopped = false }) t (λ y k. k) (omega arith)
undone_stays plan d S t x h =
    let e : undone (do_deed plan d S).targets t x ≡ undone S.targets t x = ap (λ (T : Targets). undone T t x) (targets_stay plan d S refl) in
    omega arith

pub all_calm : {A : Type 0} (plan : Plan) (ds : List Deed) (S : State A) (t x : ℕ) → list_all is_calm ds ≡ true → undone S.targets t x ≤ undone (do_deeds plan ds S).targets t x
all_calm plan [] S t x h = omega arith
all_calm plan (d ∷ ds) S t x h =
    let one = undone_stays plan d S t x (both_left (is_calm d) (list_all is_calm ds) h) in
    let rest = all_calm plan ds (do_deed plan d S) t x (both_right (is_calm d) (list_all is_calm ds) h) in
    omega arith

-- ---- the depth of a target

pub depth_stays : {A : Type 0} (plan : Plan) (d : Deed) (S : State A) (t : ℕ) → (the_target (do_deed plan d S).targets t).depth ≡ (the_target S.targets t).depth
depth_stays plan (SendRequest r u forget) S t = one_stays (λ y. y.depth ≡ (the_target S.targets t).depth) S.targets u.0 (λ y. record y { sent = sending_in_order (new_sending r.0 forget) y.sent }) t (λ y k. k) refl
depth_stays plan (FinishSending r s) S t = all_stay (λ y. y.depth ≡ (the_target S.targets t).depth) S.targets (target_done r.0 s) t refl (λ y k. k) refl
depth_stays plan (ComeBack r) S t = all_stay (λ y. y.depth ≡ (the_target S.targets t).depth) S.targets (without_sending r.0) t refl (λ y k. k) refl
depth_stays plan (StopTarget u) S t = one_stays (λ y. y.depth ≡ (the_target S.targets t).depth) S.targets u.0 (λ y. record y { stopped = true }) t (λ y k. k) refl
depth_stays plan (StartTarget u) S t = one_stays (λ y. y.depth ≡ (the_target S.targets t).depth) S.targets u.0 (λ y. record y { stopped = false }) t (λ y k. k) refl
depth_stays plan d S t = ap (λ (T : Targets). (the_target T t).depth) (targets_stay plan d S refl)

pub depths_stay : {A : Type 0} (plan : Plan) (ds : List Deed) (S : State A) (t : ℕ) → (the_target (do_deeds plan ds S).targets t).depth ≡ (the_target S.targets t).depth
depths_stay plan [] S t = refl
depths_stay plan (d ∷ ds) S t = depths_stay plan ds (do_deed plan d S) t ∙ depth_stays plan d S t
