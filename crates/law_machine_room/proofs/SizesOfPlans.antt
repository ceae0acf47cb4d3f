-- What a plan declares has an id below the size of the tables.
use Rattle.std.proofs.Common.{◌≡◌, ℕ, zero, suc, ◌+◌, ◌<◌, ◌≤◌, true, Option, Some, None, is_some, slice_get, refl, arith}
use Rattle.std.specs.List.{All, range_with_len}
use Rattle.std.proofs.lemmas.List.Elements.{All-cons, All-filter, All-nil}
use Rattle.std.proofs.lemmas.Option.{slice_get_within}
use Rattle.wdf_base.specs.declared.plan.Plan.{Plan}
use Rattle.wdf_base.specs.declared.call.Callback.{Callback}
use Rattle.wdf_base.specs.declared.declared.Declared.{Declared}
use Rattle.wdf_model.specs.Plans.{declared_ids, declares, interrupt_of, interrupts_of, is_interrupt_of, is_queue_of, queue_of, queues_of, script_on}
use Rattle.wdf_model.specs.rules.Groups.{declared_end}

range_below : (a n m : ℕ) → a + n ≤ m → All (λ x. x < m) (range_with_len a n)
range_below a zero m h = All-nil (λ x. x < m)
range_below a (suc n) m h = All-cons (λ x. x < m) a (range_with_len (a + 1) n) (omega arith) (range_below (a + 1) n m (omega arith))

ids_below : (plan : Plan) → All (λ x. x < declared_end plan) (declared_ids plan)
ids_below plan = range_below 0 (declared_end plan) (declared_end plan) (omega arith)

pub queues_below : (plan : Plan) (d : ℕ) → All (λ q. q < declared_end plan) (queues_of plan d)
queues_below plan d = All-filter (λ id. is_queue_of d (queue_of plan id)) (λ q. q < declared_end plan) (declared_ids plan) (ids_below plan)

pub interrupts_below : (plan : Plan) (d : ℕ) → All (λ i. i < declared_end plan) (interrupts_of plan d)
interrupts_below plan d = All-filter (λ id. is_interrupt_of d (interrupt_of plan id)) (λ i. i < declared_end plan) (declared_ids plan) (ids_below plan)

declared_by : (plan : Plan) (c : Callback) (k : ℕ) (found : Option Declared) → slice_get plan.declared k ≡ found → is_some (script_on plan c found) ≡ true → suc k < declared_end plan
declared_by plan c k None e h = absurd (let z : ⊥ = cc in z)
declared_by plan c k (Some d) e h = let within = slice_get_within plan.declared k d e in omega arith

-- an object that declares a callback is a declared one
pub declares_below : (plan : Plan) (c : Callback) (id : ℕ) → declares plan c id ≡ true → id < declared_end plan
declares_below plan c zero h = omega arith
declares_below plan c (suc k) h = declared_by plan c k (slice_get plan.declared k) refl h
