-- Callbacks that are due for many requests of a queue at once: which requests are counted for the queue, and what they all
-- wait for. (own)
use Rattle.std.specs.Prelude.{ℕ, ◌≡◌, Bool, true, ◌&&◌, List, filter, Option, Some, None}
use Rattle.wdf_base.specs.Places.{is_returning_to}
use Rattle.wdf_base.specs.declared.call.Callback.{Callback}
use Rattle.wdf_base.specs.declared.plan.Plan.{Plan}
use Rattle.wdf_base.specs.declared.rank.Rank.{Rank}
use Rattle.wdf_base.specs.declared.rank.Rank.TheVariants as rank
use Rattle.wdf_model.specs.Ids.{cpu_of}
use Rattle.wdf_model.specs.Plans.{callback_irql, declares}
use Rattle.wdf_model.specs.State.{State, declared_in, declares_in}
use Rattle.wdf_model.specs.Tables.{ids_of}
use Rattle.wdf_model.specs.declared.enums.Group.{Group}
use Rattle.wdf_model.specs.declared.enums.Group.TheVariants as group
use Rattle.wdf_model.specs.parts.Locks.{is_free_if_any, lock_of_callback}
use Rattle.wdf_model.specs.parts.Power.{holding_of}
use Rattle.wdf_model.specs.parts.Requests.{place_of, request_of}
use Rattle.wdf_model.specs.rules.Groups.{callback_for}
use Rattle.wdf_model.specs.rules.Starts.{level_fits, life_fits, rank_ready_for}
use Rattle.wdf_model.specs.rules.Steps.{is_cpu}
use Rattle.wdf_maps.specs.Counts.{is_at}
use Rattle.wdf_request.specs.Closing.{due_requests}
use Rattle.wdf_request.specs.ForQueues.{due_from, returning_requests, returning_to}
use Rattle.wdf_request.specs.Keys.{due_queue}
use Rattle.wdf_power.specs.ForQueues.{resuming, resuming_from, resuming_queue, unasked, unasked_from, unasked_queue}
use Rattle.wdf_offers.specs.Idle.{is_stopping}
use Rattle.wdf_offers.specs.declared.for_requests.Herd.{Herd}
use Rattle.wdf_offers.specs.declared.for_requests.Herd.TheVariants as herd

-- the rank of its callback
abbrev pub rank_of : Herd → Rank
rank_of herd.Cancel = rank.Cancel
rank_of herd.Return = rank.CanceledOnQueue
rank_of herd.Stop = rank.Stop
rank_of herd.Resume = rank.Resume

-- the herd of a rank, none where its callbacks aren't counted by queue
abbrev pub herd_of : Rank → Option Herd
herd_of rank.Cancel = Some herd.Cancel
herd_of rank.CanceledOnQueue = Some herd.Return
herd_of rank.Stop = Some herd.Stop
herd_of rank.Resume = Some herd.Resume
herd_of _ = None

-- the group of its candidates for a queue, on a processor
abbrev pub herd_group : Herd → ℕ → ℕ → Group
herd_group h cpu q = group.StartsFor cpu (rank_of h) q

-- the callback is due on a queue for a request
abbrev pub is_due_for : {A : Type 0} → Plan → State A → Herd → ℕ → ℕ → Bool
is_due_for plan S h q r = rank_ready_for plan S (rank_of h) (callback_for (rank_of h)) q r

-- the requests for which it is due, rising
abbrev pub due_for : {A : Type 0} → Plan → State A → Herd → ℕ → List ℕ
due_for plan S h q = filter (is_due_for plan S h q) (ids_of S.requests.all)

-- ---- by one part alone

-- a request is counted for a queue
abbrev pub is_counted : {A : Type 0} → Herd → State A → ℕ → ℕ → Bool
is_counted herd.Cancel S q r = is_at q (due_queue (request_of S.requests r))
is_counted herd.Return S q r = is_returning_to q (place_of S.requests r)
is_counted herd.Stop S q r = is_at q (unasked_queue (holding_of S.power r))
is_counted herd.Resume S q r = is_at q (resuming_queue (holding_of S.power r))

-- those that are, rising
abbrev pub counted : {A : Type 0} → Herd → State A → ℕ → List ℕ
counted herd.Cancel S q = due_from S.requests q
counted herd.Return S q = returning_to S.requests q
counted herd.Stop S q = unasked_from S.power q
counted herd.Resume S q = resuming_from S.power q

-- those that are counted for whatever queue, and others
abbrev pub whole : {A : Type 0} → Herd → State A → List ℕ
whole herd.Cancel S = due_requests S.requests
whole herd.Return S = returning_requests S.requests
whole herd.Stop S = unasked S.power
whole herd.Resume S = resuming S.power

-- ---- what all requests of a queue have in common

-- the callback can be due on a queue: EvtIoStop only while the queue stops
abbrev pub can_be : {A : Type 0} → Plan → State A → Herd → ℕ → Bool
can_be plan S herd.Stop q = is_stopping plan S q
can_be plan S _ q = true

-- a callback may start on an object, on a processor, for each request for which it is due
abbrev pub begins_on : {A : Type 0} → Plan → State A → ℕ → Callback → ℕ → Bool
begins_on plan S cpu c o =
    is_cpu plan (cpu_of cpu) && declares_in plan S c o && life_fits S c o && level_fits S cpu (callback_irql plan c o)
    && is_free_if_any S.locks (lock_of_callback plan c o (declared_in plan S o))

-- so may the callback of a herd on a queue that declares it, where it can be due there
abbrev pub may_begin : {A : Type 0} → Plan → State A → Herd → ℕ → ℕ → Bool
may_begin plan S h cpu q = declares plan (callback_for (rank_of h)) q && begins_on plan S cpu (callback_for (rank_of h)) q && can_be plan S h q

-- It is due for just those requests that are counted for the queue, where it can be.
pub record IsExact {A : Type 0} (plan : Plan) (S : State A) (h : Herd) (q : ℕ) : Type 0 where
  pub due : (r : ℕ) → is_due_for plan S h q r ≡ (can_be plan S h q && is_counted h S q r)
