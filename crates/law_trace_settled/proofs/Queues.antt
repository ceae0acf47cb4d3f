-- The power-managed queues of a device, as a list and as a test.
use Rattle.std.proofs.Common.{if◌then◌else◌, ◌≡◌, ℕ, zero, suc, ◌<◌, ◌==◌, Bool, true, false, not, ◌&&◌, ◌||◌, List, [], ◌∷◌, Option, Some, None, option_map, unwrap_or, filter, length, slice_get, refl, arith}
use Rattle.std.specs.List.{list_all}
use Rattle.std.proofs.lemmas.Bool.{eqb-true}
use Rattle.std.proofs.lemmas.Option.{slice_get_within}
use Rattle.wdf_base.specs.declared.plan.Plan.{Plan}
use Rattle.wdf_base.specs.declared.declared.Declared.{Declared}
use Rattle.wdf_base.specs.declared.declared.Declared.TheVariants as declared
use Rattle.wdf_base.specs.declared.declared.QueueInfo.{QueueInfo}
use Rattle.wdf_model.specs.Plans.{as_queue, device_of_queue, is_managed, is_queue_of, managed_queues, queue_of, queues_of}
use Rattle.wdf_model.proofs.Tests.{both, both_left, both_right}
use Rattle.wdf_model.proofs.Counts.{equal}
use Rattle.law_machine_lives.proofs.Lists.{all_of_kept}
use Rattle.wdf_laws.specs.Laws.{is_managed_of}

-- what the test says of a queue
managed_by : (d : ℕ) (x : Option QueueInfo) → is_managed_of d x ≡ true → (unwrap_or (option_map (λ (i : QueueInfo). i.powered) x) false ≡ true) × (unwrap_or (option_map (λ (i : QueueInfo). i.device.0) x) 0 ≡ d) × (is_queue_of d x ≡ true)
managed_by d None h = absurd (let z : ⊥ = cc in z)
managed_by d (Some i) h = (both_left i.powered (i.device.0 == d) h, eqb-true i.device.0 d (both_right i.powered (i.device.0 == d) h), both_right i.powered (i.device.0 == d) h)

pub is_of : (plan : Plan) (d q : ℕ) → is_managed_of d (queue_of plan q) ≡ true → (is_managed plan q ≡ true) × (device_of_queue plan q ≡ d) × (is_queue_of d (queue_of plan q) ≡ true)
is_of plan d q h = managed_by d (queue_of plan q) h

managed_as : (d : ℕ) (x : Option QueueInfo) → unwrap_or (option_map (λ (i : QueueInfo). i.powered) x) false ≡ true → unwrap_or (option_map (λ (i : QueueInfo). i.device.0) x) 0 ≡ d → is_managed_of d x ≡ true
managed_as d None h e = absurd (let z : ⊥ = cc in z)
managed_as d (Some i) h e = both i.powered (i.device.0 == d) h (equal i.device.0 d e)

pub of_device : (plan : Plan) (d q : ℕ) → is_managed plan q ≡ true → device_of_queue plan q ≡ d → is_managed_of d (queue_of plan q) ≡ true
of_device plan d q h e = managed_as d (queue_of plan q) h e

-- the queue is a declared one
pub queue_at : (x : Option Declared) (d : ℕ) → is_managed_of d (as_queue x) ≡ true → (i : QueueInfo) × (x ≡ Some (declared.Queue i)) × (i.device.0 ≡ d)
queue_at (Some (declared.Queue i)) d h = (i, refl, eqb-true i.device.0 d (both_right i.powered (i.device.0 == d) h))
queue_at None d h = absurd (let z : ⊥ = cc in z)
queue_at (Some _) d h = absurd (let z : ⊥ = cc in z)

within : (plan : Plan) (d q : ℕ) → is_managed_of d (queue_of plan q) ≡ true → q < suc (length plan.declared)
within plan d zero h = omega arith
within plan d (suc k) h = let e = queue_at (slice_get plan.declared k) d h in let w = slice_get_within plan.declared k (declared.Queue e.0) e.1 in omega arith

-- what is so of the kept is so of each, if it is kept
each_if_kept_by : (p m : ℕ → Bool) (x : ℕ) (xs : List ℕ) (b : Bool) → m x ≡ b → (list_all p (filter m xs) ≡ true → list_all (λ y. not (m y) || p y) xs ≡ true) → list_all p (if b then x ∷ filter m xs else filter m xs) ≡ true
    → ((not (m x) || p x) && list_all (λ y. not (m y) || p y) xs) ≡ true
each_if_kept_by p m x xs true e rest h = rw e (both (p x) (list_all (λ y. not (m y) || p y) xs) (both_left (p x) (list_all p (filter m xs)) h) (rest (both_right (p x) (list_all p (filter m xs)) h)))
each_if_kept_by p m x xs false e rest h = rw e (rest h)

each_if_kept : (p m : ℕ → Bool) (xs : List ℕ) → list_all p (filter m xs) ≡ true → list_all (λ y. not (m y) || p y) xs ≡ true
each_if_kept p m [] h = refl
each_if_kept p m (x ∷ xs) h = each_if_kept_by p m x xs (m x) refl (each_if_kept p m xs) h

-- what is so of each power-managed queue of a device is so of this one
pub of_each : (plan : Plan) (d q : ℕ) (p : ℕ → Bool) → is_managed_of d (queue_of plan q) ≡ true → list_all p (managed_queues plan d) ≡ true → p q ≡ true
of_each plan d q p h all_ =
    let parts = is_of plan d q h in
    let t : (not (is_managed plan q) || p q) ≡ true = all_of_kept (λ x. not (is_managed plan x) || p x) (λ x. is_queue_of d (queue_of plan x)) q 0 (suc (length plan.declared)) (omega arith) (let w = within plan d q h in omega arith)
    (each_if_kept p (is_managed plan) (queues_of plan d) all_) parts.2 in
    rw parts.0 at t
