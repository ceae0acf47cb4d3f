-- What is asked of each event before, asked of the items of a list.
use Rattle.std.proofs.Common.{◌≡◌, ℕ, zero, suc, ◌+◌, Bool, true, false, not, ◌==◌, ◌&&◌, ◌||◌, if◌then◌else◌, List, [], ◌∷◌, ◌++◌, length, take, slice_get, Option, Some, None, refl, sym, ap, ◌∙◌, arith}
use Rattle.std.specs.List.{list_all}
use Rattle.std.proofs.lemmas.List.{take_all}
use Rattle.std.proofs.lemmas.List.Folds.{list_all-append}
use Rattle.std.proofs.Math.Bool.{and-true, or-true}
use Rattle.wdf_base.specs.declared.plan.Plan.{Plan}
use Rattle.wdf_base.specs.declared.declared.QueueInfo.{QueueInfo}
use Rattle.wdf_base.specs.declared.event.Event.{Event}
use Rattle.wdf_model.specs.Plans.{queue_of}
use Rattle.wdf_laws.specs.declared.sign.Taking.{Taking}
use Rattle.wdf_laws.specs.declared.sign.Told.{Told}
use Rattle.wdf_laws.specs.Events.{is_id, arrived, arrived_at, taken, told}
use Rattle.wdf_laws.specs.Family.{parent_of}
use Rattle.wdf_laws.specs.Laws.{is_completed, is_settled, is_managed_of, is_acknowledged, is_acknowledged_at, is_ended_child, is_ended_told, is_ended_at, declared_ended}
use Rattle.check_past.specs.Maps.{added_at}
use Rattle.check_past.specs.Groups.{with_arrival, with_arrival_in, arrived_for, manager, with_taking, with_taking_in, takings_for, declared_children, with_child, with_child_in, children_by, children_of}
use Rattle.check_past.specs.Past.{Read, before}
use Rattle.check_trace.specs.Tests.{is_done, has_ended, is_answered}
use Rattle.check_past.proofs.Words.{step_in, at_next}

-- one item more, asked too
all_next : {X : Type 0} (p : X → Bool) (xs : List X) (x : X) → list_all p (xs ++ x ∷ []) ≡ (list_all p xs && p x)
all_next p xs x = list_all-append p xs (x ∷ []) ∙ ap (λ b. list_all p xs && b) (and-true (p x))

added_case : {X : Type 0} (p : X → Bool) (x : X) (xs : List X) (b : Bool) → list_all p (if b then xs ++ x ∷ [] else xs) ≡ (list_all p xs && (not b || p x))
added_case p x xs true = all_next p xs x
added_case p x xs false = sym (and-true (list_all p xs))

-- an item that is added where its id is this one
all_added : {X : Type 0} (p : X → Bool) (id : Option ℕ) (x : X) (q : ℕ) (xs : List X) → list_all p (added_at id x q xs) ≡ (list_all p xs && (not (is_id q id) || p x))
all_added p id x q xs = added_case p x xs (is_id q id)

-- ---- the requests of a device

arrival_asked : (es : List Event) (d : ℕ) (device r : Option ℕ) (xs : List ℕ) → list_all (is_done es) (with_arrival d device r xs) ≡ (list_all (is_done es) xs && (not (is_id d device) || is_completed es r))
arrival_asked es d device None xs = sym (and-true _) ∙ ap (λ b. list_all (is_done es) xs && b) (sym (or-true (not (is_id d device))))
arrival_asked es d device (Some r) xs = all_added (is_done es) device r d xs

arrival_in : (es : List Event) (d : ℕ) (o : Option Event) (xs : List ℕ) → list_all (is_done es) (with_arrival_in d o xs) ≡ step_in (λ b e. b && is_settled es d e) (list_all (is_done es) xs) o
arrival_in es d None xs = refl
arrival_in es d (Some e) xs = arrival_asked es d (arrived_at e) (arrived e) xs

settled_by : (es : List Event) (d : ℕ) (all : List Event) (k : ℕ) → list_all (is_done es) (arrived_for all d k) ≡ list_all (is_settled es d) (take k all)
unfolding arrived_for
settled_by es d all zero = refl
settled_by es d all (suc k) =
    arrival_in es d (slice_get all k) (arrived_for all d k)
    ∙ ap (λ b. step_in (λ c e. c && is_settled es d e) b (slice_get all k)) (settled_by es d all k)
    ∙ sym (at_next (list_all (is_settled es d)) (λ c e. c && is_settled es d e) (all_next (is_settled es d)) all k)

pub settled_by_arrivals : (R : Read) (d : ℕ) → list_all (is_done (before R)) (arrived_for R.all d R.number) ≡ list_all (is_settled (before R) d) (before R)
settled_by_arrivals R d = settled_by (before R) d R.all R.number

-- ---- the takings from the queues of a device

managed_case : (d x : ℕ) (b : Bool) → is_id d (if b then Some x else None) ≡ (b && (x == d))
managed_case d x true = refl
managed_case d x false = refl

managed_is : (d : ℕ) (queue : Option QueueInfo) → is_id d (manager queue) ≡ is_managed_of d queue
managed_is d None = refl
managed_is d (Some q) = managed_case d q.device.0 q.powered

or_assoc : (a b c : Bool) → (a || (b || c)) ≡ ((a || b) || c)
or_assoc true b c = refl
or_assoc false b c = refl

taking_asked : (plan : Plan) (es : List Event) (d : ℕ) (t : Option Taking) (xs : List Taking) → list_all (is_answered es d) (with_taking plan d t xs) ≡ (list_all (is_answered es d) xs && is_acknowledged plan es d t)
taking_asked plan es d None xs = sym (and-true _)
taking_asked plan es d (Some t) xs =
    all_added (is_answered es d) (manager (queue_of plan t.queue)) t d xs
    ∙ ap (λ b. list_all (is_answered es d) xs && (not b || is_answered es d t)) (managed_is d (queue_of plan t.queue))
    ∙ ap (λ b. list_all (is_answered es d) xs && b) (or_assoc (not (is_managed_of d (queue_of plan t.queue))) _ _)

taking_in : (plan : Plan) (es : List Event) (d : ℕ) (o : Option Event) (xs : List Taking)
    → list_all (is_answered es d) (with_taking_in plan d o xs) ≡ step_in (λ b e. b && is_acknowledged_at plan es d e) (list_all (is_answered es d) xs) o
taking_in plan es d None xs = refl
taking_in plan es d (Some e) xs = taking_asked plan es d (taken e) xs

acknowledged_by : (plan : Plan) (es : List Event) (d : ℕ) (all : List Event) (k : ℕ) → list_all (is_answered es d) (takings_for plan all d k) ≡ list_all (is_acknowledged_at plan es d) (take k all)
unfolding takings_for
acknowledged_by plan es d all zero = refl
acknowledged_by plan es d all (suc k) =
    taking_in plan es d (slice_get all k) (takings_for plan all d k)
    ∙ ap (λ b. step_in (λ c e. c && is_acknowledged_at plan es d e) b (slice_get all k)) (acknowledged_by plan es d all k)
    ∙ sym (at_next (list_all (is_acknowledged_at plan es d)) (λ c e. c && is_acknowledged_at plan es d e) (all_next (is_acknowledged_at plan es d)) all k)

pub acknowledged_by_takings : (R : Read) (d : ℕ) → list_all (is_answered (before R) d) (takings_for R.plan R.all d R.number) ≡ list_all (is_acknowledged_at R.plan (before R) d) (before R)
acknowledged_by_takings R d = acknowledged_by R.plan (before R) d R.all R.number

-- ---- the children of an object

declared_by : (plan : Plan) (all es : List Event) (o n : ℕ) → list_all (has_ended es) (declared_children plan all o n) ≡ declared_ended plan all es o n
unfolding declared_children
declared_by plan all es o zero = refl
declared_by plan all es o (suc n) =
    all_added (has_ended es) (Some (parent_of plan all (n + 1))) (n + 1) o (declared_children plan all o n)
    ∙ ap (λ b. b && is_ended_child plan all es o (n + 1)) (declared_by plan all es o n)

child_asked : (plan : Plan) (all es : List Event) (o : ℕ) (t : Option Told) (xs : List ℕ) → list_all (has_ended es) (with_child plan all o t xs) ≡ (list_all (has_ended es) xs && is_ended_told plan all es o t)
child_asked plan all es o None xs = sym (and-true _)
child_asked plan all es o (Some t) xs = all_added (has_ended es) (Some (parent_of plan all t.object)) t.object o xs

child_in : (plan : Plan) (all es : List Event) (o : ℕ) (x : Option Event) (xs : List ℕ)
    → list_all (has_ended es) (with_child_in plan all o x xs) ≡ step_in (λ b e. b && is_ended_at plan all es o e) (list_all (has_ended es) xs) x
child_in plan all es o None xs = refl
child_in plan all es o (Some e) xs = child_asked plan all es o (told plan e) xs

and_assoc : (a b c : Bool) → ((a && b) && c) ≡ (a && (b && c))
and_assoc true b c = refl
and_assoc false b c = refl

within_step : (f : Event → Bool) (a b : Bool) (x : Option Event) → step_in (λ c e. c && f e) (a && b) x ≡ (a && step_in (λ c e. c && f e) b x)
within_step f a b None = refl
within_step f a b (Some e) = and_assoc a b (f e)

ended_by : (plan : Plan) (all es : List Event) (o k : ℕ)
    → list_all (has_ended es) (children_by plan all o k) ≡ (declared_ended plan all es o (length plan.declared) && list_all (is_ended_at plan all es o) (take k all))
unfolding children_by
ended_by plan all es o zero = declared_by plan all es o (length plan.declared) ∙ sym (and-true _)
ended_by plan all es o (suc k) =
    child_in plan all es o (slice_get all k) (children_by plan all o k)
    ∙ ap (λ b. step_in (λ c e. c && is_ended_at plan all es o e) b (slice_get all k)) (ended_by plan all es o k)
    ∙ within_step (is_ended_at plan all es o) (declared_ended plan all es o (length plan.declared)) (list_all (is_ended_at plan all es o) (take k all)) (slice_get all k)
    ∙ ap (λ b. declared_ended plan all es o (length plan.declared) && b) (sym (at_next (list_all (is_ended_at plan all es o)) (λ c e. c && is_ended_at plan all es o e) (all_next (is_ended_at plan all es o)) all k))

pub ended_by_children : (plan : Plan) (all es : List Event) (o : ℕ) → list_all (has_ended es) (children_of plan all o) ≡ (declared_ended plan all es o (length plan.declared) && list_all (is_ended_at plan all es o) all)
ended_by_children plan all es o =
    ended_by plan all es o (length all) ∙ ap (λ xs. declared_ended plan all es o (length plan.declared) && list_all (is_ended_at plan all es o) xs) (take_all (length all) all (omega arith))
