-- The queues: who waits in which, and how many requests the driver holds from each. (KMDF)
use Rattle.std.specs.Prelude.{sum, ℕ, ◌+◌, ◌-◌, Bool, false, ◌==◌, nat_lt, List, [], ◌∷◌, ◌++◌, length, map, drop, Option, Some, None}
use Rattle.std.specs.List.{list_any}
use Rattle.wdf_base.specs.declared.plan.Plan.{Plan}
use Rattle.wdf_base.specs.declared.declared.QueueInfo.{QueueInfo}
use Rattle.wdf_base.specs.declared.declared.DispatchKind.{DispatchKind}
use Rattle.wdf_base.specs.declared.declared.DispatchKind.TheVariants as dispatch
use Rattle.wdf_model.specs.Tables.{entry, change_at, without, contains, first_of_list}
use Rattle.wdf_model.specs.Plans.{queue_of, declared_ids}

-- who waits in each queue, and how many requests from each the driver holds
pub record Queues : Type 0 where
  -- how each queue presents its requests, by the queue's id
  pub dispatch : List DispatchKind
  -- the ids that wait in each, the front first
  pub waiting : List (List ℕ)
  -- how many requests from each the driver holds
  pub held : List ℕ

-- ---- readers

-- how queue q presents its requests: sequential, parallel or manual; manual for an id that is no queue's
abbrev pub dispatch_of : Queues → ℕ → DispatchKind
dispatch_of Q q = entry dispatch.Manual Q.dispatch q

-- the ids of the requests that wait in queue q, the front first
abbrev pub waiting_in : Queues → ℕ → List ℕ
waiting_in Q q = entry [] Q.waiting q

-- the id of the request at the front of queue q, None where nothing waits in it
abbrev pub front : Queues → ℕ → Option ℕ
front Q q = first_of_list (waiting_in Q q)

-- whether nothing waits in queue q
abbrev pub is_empty_queue : Queues → ℕ → Bool
is_empty_queue Q q = length (waiting_in Q q) == 0

-- how many requests from queue q the driver holds
abbrev pub held_count : Queues → ℕ → ℕ
held_count Q q = entry 0 Q.held q

-- how many requests the driver holds from all queues
abbrev pub held_in : Queues → ℕ
held_in Q = sum Q.held

-- KMDF: a sequential queue presents while nothing is held from it, a parallel one while fewer than its number are; a
-- manual one never presents
abbrev pub is_free_by : DispatchKind → ℕ → Bool
is_free_by dispatch.Sequential held = held == 0
is_free_by (dispatch.Parallel n) held = nat_lt held n
is_free_by dispatch.Manual held = false

-- whether queue q is free to present one request more, by how many are held from it
abbrev pub is_free : Queues → ℕ → Bool
is_free Q q = is_free_by (dispatch_of Q q) (held_count Q q)

-- whether request r waits in some queue
abbrev pub is_waiting : Queues → ℕ → Bool
is_waiting Q r = list_any (contains r) Q.waiting

-- ---- acts

-- the waiting list of queue q changes by f, and no other
abbrev pub with_waiting : Queues → ℕ → (List ℕ → List ℕ) → Queues
with_waiting Q q f = record Q { waiting = change_at [] Q.waiting q f }

-- how many requests are held from queue q changes by f, and for no other
abbrev pub with_held : Queues → ℕ → (ℕ → ℕ) → Queues
with_held Q q f = record Q { held = change_at 0 Q.held q f }

-- request r enters queue q at the tail: it arrived, or was forwarded (KMDF)
abbrev pub enter : Queues → ℕ → ℕ → Queues
enter Q q r = with_waiting Q q (λ rs. rs ++ r ∷ [])

-- request r enters queue q at the head (KMDF)
abbrev pub requeue : Queues → ℕ → ℕ → Queues
requeue Q q r = with_waiting Q q (λ rs. r ∷ rs)

-- the driver holds one request more from queue q
abbrev pub hold : Queues → ℕ → Queues
hold Q q = with_held Q q (λ n. n + 1)

-- the driver holds one request less from queue q
abbrev pub let_go : Queues → ℕ → Queues
let_go Q q = with_held Q q (λ n. n - 1)

-- the front request of queue q leaves it, and the driver holds it
abbrev pub take : Queues → ℕ → Queues
take Q q = hold (with_waiting Q q (drop 1)) q

-- request r leaves the queue in which it waits
abbrev pub take_cancelled : Queues → ℕ → Queues
take_cancelled Q r = record Q { waiting = map (without r) Q.waiting }

-- nothing waits in queue q any more
abbrev pub clear : Queues → ℕ → Queues
clear Q q = with_waiting Q q (λ _. [])

-- ---- the opening

-- how a queue presents its requests, as it is declared
abbrev pub opening_dispatch : Option QueueInfo → DispatchKind
opening_dispatch None = dispatch.Manual
opening_dispatch (Some q) = q.dispatch

-- the queues at the opening: nothing waits, and nothing is held
abbrev pub opening_queues : Plan → Queues
opening_queues plan = record {
  dispatch = map (λ q. opening_dispatch (queue_of plan q)) (declared_ids plan);
  waiting = map (λ _. []) (declared_ids plan);
  held = map (λ _. 0) (declared_ids plan);
}
