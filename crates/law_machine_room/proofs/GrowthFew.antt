-- Of each that a deed may add to, the deeds of one call add one at most.
use Rattle.std.proofs.Common.{if◌then◌else◌, ◌≡◌, ℕ, ◌==◌, ◌≤◌, Bool, true, false, not, ◌&&◌, ◌||◌, List, [], ◌∷◌, ◌++◌, ◌⊎◌, inl, inr, Option, Some, None, length, refl, ap, sym, ◌∙◌, arith}
use Rattle.std.proofs.lemmas.List.Sums.{count_by-le-length}
use Rattle.std.proofs.lemmas.Bool.{eqb-true}
use Rattle.wdf_base.specs.declared.plan.Plan.{Plan}
use Rattle.wdf_base.specs.declared.value.Value.{Value}
use Rattle.wdf_base.specs.declared.call.Arg.{Arg}
use Rattle.wdf_base.specs.declared.call.CallKind.{CallKind}
use Rattle.wdf_base.specs.declared.call.CallKind.TheVariants as call
use Rattle.wdf_model.specs.Plans.{parent_of_class}
use Rattle.wdf_model.specs.State.{State, object_in}
use Rattle.wdf_model.specs.declared.deed.Deed.{Deed}
use Rattle.wdf_base.specs.Values.{arg_is}
use Rattle.wdf_model.specs.rules.Calls.{Outcome, acknowledge_outcome, class_in, create_outcome, dpc_outcome, forward_outcome, isr_dpc_outcome, mark_outcome, notify_outcome, number_in, origin_or_none, outcome, requeue_outcome, retrieve_front, retrieve_outcome, second_deeds, send_outcome, timer_outcome, work_outcome}
use Rattle.wdf_model.proofs.Counts.{count_behind, count_no, count_yes, not_equal}
use Rattle.wdf_model.proofs.Tests.{both_left, both_right, decided, not_true}
use Rattle.law_machine_room.proofs.GrowthCounts.{Gain, No_gain, gain_of, is_gain, number_of}
use Rattle.law_machine_room.proofs.GrowthDeeds.{all_gains}

-- ---- in general

-- of each that they add to, some deeds add one at most
pub record Few (ds : List Deed) : Type 0 where
  pub few : (g : Gain) → number_of g == 0 ≡ false → all_gains ds g ≤ 1

-- some deeds add nothing
abbrev pub are_idle : List Deed → Bool
are_idle [] = true
are_idle (d ∷ ds) = is_gain No_gain d && are_idle ds

-- some deeds don't add to one
abbrev pub add_none : ℕ → List Deed → Bool
add_none n [] = true
add_none n (d ∷ ds) = not (number_of (gain_of d) == n) && add_none n ds

-- each that is added to is added to by one deed alone
abbrev pub are_apart : List Deed → Bool
are_apart [] = true
are_apart (d ∷ ds) = (is_gain No_gain d || add_none (number_of (gain_of d)) ds) && are_apart ds

other_number : (n m : ℕ) → n == 0 ≡ true → m == 0 ≡ false → n == m ≡ false
other_number n m h k = not_equal n m (λ e. let same : (m == 0) ≡ true = ap (λ x. x == 0) (sym e) ∙ h in let z : ⊥ = cc in z)

idle_gains : (ds : List Deed) (g : Gain) → number_of g == 0 ≡ false → are_idle ds ≡ true → all_gains ds g ≡ 0
idle_gains [] g some h = refl
idle_gains (d ∷ ds) g some h =
    count_no (is_gain g) d ds (other_number (number_of (gain_of d)) (number_of g) (both_left (is_gain No_gain d) (are_idle ds) h) some)
    ∙ idle_gains ds g some (both_right (is_gain No_gain d) (are_idle ds) h)

none_gains : (ds : List Deed) (g : Gain) → add_none (number_of g) ds ≡ true → all_gains ds g ≡ 0
none_gains [] g h = refl
none_gains (d ∷ ds) g h =
    count_no (is_gain g) d ds (not_true (is_gain g d) (both_left (not (is_gain g d)) (add_none (number_of g) ds) h)) ∙ none_gains ds g (both_right (not (is_gain g d)) (add_none (number_of g) ds) h)

apart_by : (d : Deed) (ds : List Deed) (g : Gain) → number_of g == 0 ≡ false → (is_gain g d ≡ true) ⊎ (is_gain g d ≡ false)
    → (is_gain No_gain d || add_none (number_of (gain_of d)) ds) ≡ true → all_gains ds g ≤ 1 → all_gains (d ∷ ds) g ≤ 1
apart_by d ds g some (inl is) alone rest =
    let same : number_of (gain_of d) ≡ number_of g = eqb-true (number_of (gain_of d)) (number_of g) is in
    let other : is_gain No_gain d ≡ false = ap (λ n. n == 0) same ∙ some in
    let none : add_none (number_of g) ds ≡ true = ap (λ n. add_none n ds) (sym same) ∙ ap (λ b. b || add_none (number_of (gain_of d)) ds) (sym other) ∙ alone in
    let e = count_yes (is_gain g) d ds is in
    let k = none_gains ds g none in
    omega arith
apart_by d ds g some (inr off) alone rest = let e = count_no (is_gain g) d ds off in omega arith

apart_gains : (ds : List Deed) (g : Gain) → number_of g == 0 ≡ false → are_apart ds ≡ true → all_gains ds g ≤ 1
apart_gains [] g some h = omega arith
apart_gains (d ∷ ds) g some h =
    apart_by d ds g some (decided (is_gain g d)) (both_left (is_gain No_gain d || add_none (number_of (gain_of d)) ds) (are_apart ds) h)
    (apart_gains ds g some (both_right (is_gain No_gain d || add_none (number_of (gain_of d)) ds) (are_apart ds) h))

pub few_apart : (ds : List Deed) → are_apart ds ≡ true → Few ds
few_apart ds h = record { few = λ g some. apart_gains ds g some h }

pub few_idle : (ds : List Deed) → are_idle ds ≡ true → Few ds
few_idle ds h = record { few = λ g some. let e = idle_gains ds g some h in omega arith }

-- one deed, or none
pub few_short : (ds : List Deed) → length ds ≤ 1 → Few ds
few_short ds h = record { few = λ g some. let e = count_by-le-length (is_gain g) ds in omega arith }

-- beside deeds that add nothing
pub few_then : (ds es : List Deed) → Few ds → are_idle es ≡ true → Few (ds ++ es)
few_then ds es p h = record { few = λ g some. let e = count_behind (is_gain g) ds es in let k = idle_gains es g some h in let few = p.few g some in omega arith }

pub then_few : (ds es : List Deed) → are_idle ds ≡ true → Few es → Few (ds ++ es)
then_few ds es h p = record { few = λ g some. let e = count_behind (is_gain g) ds es in let k = idle_gains ds g some h in let few = p.few g some in omega arith }

-- ---- calls

-- a call that does one deed at most
record Short (o : Outcome) : Type 0 where
  short : length o.deeds ≤ 1

either : (b : Bool) (x y : Outcome) → Short x → Short y → Short (if b then x else y)
either true x y p q = p
either false x y p q = q

nothing_done : (answer : Value) → Short (record { answer = answer; deeds = [] })
nothing_done answer = record { short = omega arith }

one_done : (answer : Value) (d : Deed) → Short (record { answer = answer; deeds = d ∷ [] })
one_done answer d = record { short = omega arith }

created : {A : Type 0} (plan : Plan) (S : State A) (class parent : ℕ) → Short (create_outcome plan S class parent)
created plan S class parent = search (either, nothing_done, one_done)

presented : {A : Type 0} (plan : Plan) (S : State A) (q : ℕ) (r : Option ℕ) → Short (retrieve_front plan S q r)
presented plan S q None = nothing_done _
presented plan S q (Some r) = one_done _ _

requeued : {A : Type 0} (S : State A) (r q : ℕ) → Short (requeue_outcome S r q)
requeued S r q = search (either, one_done)

forwarded : {A : Type 0} (plan : Plan) (S : State A) (r q : ℕ) → Short (forward_outcome plan S r q)
forwarded plan S r q = search (either, nothing_done, one_done)

acknowledges : {A : Type 0} (S : State A) (r : ℕ) (f : Arg) → Short (acknowledge_outcome S r f)
acknowledges S r f = search (either, one_done, requeued)

marks : {A : Type 0} (plan : Plan) (S : State A) (r : ℕ) → Short (mark_outcome plan S r)
marks plan S r = search (either, nothing_done, one_done)

sends : {A : Type 0} (S : State A) (r t : ℕ) (forget : Bool) → Short (send_outcome S r t forget)
sends S r t forget = search (either, nothing_done, one_done)

retrieves : {A : Type 0} (plan : Plan) (S : State A) (q : ℕ) → Short (retrieve_outcome plan S q)
retrieves plan S q = search (either, nothing_done, presented)

notifies : (plan : Plan) (q : ℕ) (f : Arg) → Short (notify_outcome plan q f)
notifies plan q f = search (either, nothing_done, one_done)

interrupts : {A : Type 0} (plan : Plan) (S : State A) (cpu i : ℕ) → Short (isr_dpc_outcome plan S cpu i)
interrupts plan S cpu i = search (either, nothing_done, one_done)

defers : {A : Type 0} (S : State A) (cpu o : ℕ) → Short (dpc_outcome S cpu o)
defers S cpu o = search (either, nothing_done, one_done)

times : {A : Type 0} (S : State A) (o n : ℕ) → Short (timer_outcome S o n)
times S o n = search (either, nothing_done, one_done)

works : {A : Type 0} (S : State A) (o : ℕ) → Short (work_outcome S o)
works S o = search (either, nothing_done, one_done)

few_in : (o : Outcome) → Short o → Few o.deeds
few_in o p = few_short o.deeds p.short

-- the first part of a call
pub few_first : {A : Type 0} (plan : Plan) (S : State A) (cpu f : ℕ) (k : CallKind) (n : ℕ) (a b x : Arg) → Few (outcome plan S cpu f (record { kind = k; count = n; a = a; b = b; c = x })).deeds
few_first plan S cpu f call.WdfObjectCreate n a b x = few_in _ (created plan S (class_in a) (object_in b))
few_first plan S cpu f call.WdfSpinLockCreate n a b x = few_in _ (created plan S (class_in a) (object_in b))
few_first plan S cpu f call.WdfWaitLockCreate n a b x = few_in _ (created plan S (class_in a) (object_in b))
few_first plan S cpu f call.WdfRequestCreate n a b x = few_in _ (created plan S (class_in a) (object_in b))
few_first plan S cpu f call.WdfDpcCreate n a b x = few_in _ (created plan S (class_in a) (parent_of_class plan (class_in a)))
few_first plan S cpu f call.WdfTimerCreate n a b x = few_in _ (created plan S (class_in a) (parent_of_class plan (class_in a)))
few_first plan S cpu f call.WdfWorkItemCreate n a b x = few_in _ (created plan S (class_in a) (parent_of_class plan (class_in a)))
few_first plan S cpu f call.WdfRequestMarkCancelableEx n a b x = few_in _ (marks plan S (object_in a))
few_first plan S cpu f call.WdfRequestRequeue n a b x = few_in _ (requeued S (object_in a) (origin_or_none S (object_in a)))
few_first plan S cpu f call.WdfRequestForwardToIoQueue n a b x = few_in _ (forwarded plan S (object_in a) (object_in b))
few_first plan S cpu f call.WdfRequestStopAcknowledge n a b x = few_in _ (acknowledges S (object_in a) b)
few_first plan S cpu f call.WdfRequestSend n a b x = few_in _ (sends S (object_in a) (object_in b) (arg_is x 1))
few_first plan S cpu f call.WdfIoQueueRetrieveNextRequest n a b x = few_in _ (retrieves plan S (object_in a))
few_first plan S cpu f call.WdfIoQueueReadyNotify n a b x = few_in _ (notifies plan (object_in a) b)
few_first plan S cpu f call.WdfInterruptQueueDpcForIsr n a b x = few_in _ (interrupts plan S cpu (object_in a))
few_first plan S cpu f call.WdfDpcEnqueue n a b x = few_in _ (defers S cpu (object_in a))
few_first plan S cpu f call.WdfTimerStart n a b x = few_in _ (times S (object_in a) (number_in b))
few_first plan S cpu f call.WdfWorkItemEnqueue n a b x = few_in _ (works S (object_in a))
few_first plan S cpu f k n a b x = few_apart (outcome plan S cpu f (record { kind = k; count = n; a = a; b = b; c = x })).deeds refl

-- both parts: an acquired lock is a level and a lock
pub few_both : {A : Type 0} (plan : Plan) (S : State A) (cpu f : ℕ) (k : CallKind) (n : ℕ) (a b x : Arg)
    → Few ((outcome plan S cpu f (record { kind = k; count = n; a = a; b = b; c = x })).deeds ++ second_deeds f (record { kind = k; count = n; a = a; b = b; c = x }))
few_both plan S cpu f call.WdfSpinLockAcquire n a b x = few_apart _ refl
few_both plan S cpu f call.WdfWaitLockAcquire n a b x = few_apart _ refl
few_both plan S cpu f call.WdfInterruptAcquireLock n a b x = few_apart _ refl
few_both plan S cpu f k n a b x =
    few_then (outcome plan S cpu f (record { kind = k; count = n; a = a; b = b; c = x })).deeds (second_deeds f (record { kind = k; count = n; a = a; b = b; c = x })) (few_first plan S cpu f k n a b x) refl

-- the second part alone
pub few_second : (f : ℕ) (k : CallKind) (n : ℕ) (a b x : Arg) → Few (second_deeds f (record { kind = k; count = n; a = a; b = b; c = x }))
few_second f call.WdfSpinLockAcquire n a b x = few_apart _ refl
few_second f call.WdfWaitLockAcquire n a b x = few_apart _ refl
few_second f call.WdfInterruptAcquireLock n a b x = few_apart _ refl
few_second f k n a b x = few_apart (second_deeds f (record { kind = k; count = n; a = a; b = b; c = x })) refl
