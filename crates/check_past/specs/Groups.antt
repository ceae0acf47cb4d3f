-- Lists that the first events of a list make: the requests of a device, the takings, the children of an object.
use Rattle.std.specs.Prelude.{if◌then◌else◌, ℕ, zero, suc, ◌+◌, List, [], length, slice_get, Option, Some, None}
use Rattle.wdf_base.specs.declared.plan.Plan.{Plan}
use Rattle.wdf_base.specs.declared.declared.QueueInfo.{QueueInfo}
use Rattle.wdf_base.specs.declared.event.Event.{Event}
use Rattle.wdf_model.specs.Plans.{queue_of}
use Rattle.wdf_laws.specs.declared.sign.Taking.{Taking}
use Rattle.wdf_laws.specs.declared.sign.Told.{Told}
use Rattle.wdf_laws.specs.Events.{arrived, arrived_at, taken, told}
use Rattle.wdf_laws.specs.Family.{parent_of}
use Rattle.check_past.specs.Maps.{added_at}

-- ---- the requests that arrived for a device

-- with an event's, if a request arrives by it
abbrev pub with_arrival : ℕ → Option ℕ → Option ℕ → List ℕ → List ℕ
with_arrival d device None requests = requests
with_arrival d device (Some r) requests = added_at device r d requests

abbrev pub with_arrival_in : ℕ → Option Event → List ℕ → List ℕ
with_arrival_in d None requests = requests
with_arrival_in d (Some e) requests = with_arrival d (arrived_at e) (arrived e) requests

-- of the first k events
unfoldable pub arrived_for : List Event → ℕ → ℕ → List ℕ
arrived_for all d zero = []
arrived_for all d (suc k) = with_arrival_in d (slice_get all k) (arrived_for all d k)

-- ---- the takings from the power-managed queues of a device

-- the device that manages the power of a queue
abbrev pub manager : Option QueueInfo → Option ℕ
manager None = None
manager (Some q) = if q.powered then Some q.device.0 else None

abbrev pub with_taking : Plan → ℕ → Option Taking → List Taking → List Taking
with_taking plan d None takings = takings
with_taking plan d (Some t) takings = added_at (manager (queue_of plan t.queue)) t d takings

abbrev pub with_taking_in : Plan → ℕ → Option Event → List Taking → List Taking
with_taking_in plan d None takings = takings
with_taking_in plan d (Some e) takings = with_taking plan d (taken e) takings

unfoldable pub takings_for : Plan → List Event → ℕ → ℕ → List Taking
takings_for plan all d zero = []
takings_for plan all d (suc k) = with_taking_in plan d (slice_get all k) (takings_for plan all d k)

-- ---- the children of an object

-- the declared ones among the first n
unfoldable pub declared_children : Plan → List Event → ℕ → ℕ → List ℕ
declared_children plan all o zero = []
declared_children plan all o (suc n) = added_at (Some (parent_of plan all (n + 1))) (n + 1) o (declared_children plan all o n)

abbrev pub with_child : Plan → List Event → ℕ → Option Told → List ℕ → List ℕ
with_child plan all o None children = children
with_child plan all o (Some t) children = added_at (Some (parent_of plan all t.object)) t.object o children

abbrev pub with_child_in : Plan → List Event → ℕ → Option Event → List ℕ → List ℕ
with_child_in plan all o None children = children
with_child_in plan all o (Some e) children = with_child plan all o (told plan e) children

-- the declared ones, and those that the first k events give, one for each such event
unfoldable pub children_by : Plan → List Event → ℕ → ℕ → List ℕ
children_by plan all o zero = declared_children plan all o (length plan.declared)
children_by plan all o (suc k) = with_child_in plan all o (slice_get all k) (children_by plan all o k)

abbrev pub children_of : Plan → List Event → ℕ → List ℕ
children_of plan all o = children_by plan all o (length all)
