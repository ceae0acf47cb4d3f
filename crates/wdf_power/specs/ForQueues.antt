-- The requests that are held and weren't asked to stop, and those for which a resume is due, by the queue that they are held from.
use Rattle.std.specs.Prelude.{if◌then◌else◌, ℕ, nat_lt, Bool, ◌&&◌, not, List, filter, length, Option, Some, None, is_some}
use Rattle.wdf_base.specs.declared.ids.ObjectId.{ObjectId}
use Rattle.wdf_model.specs.declared.entries.Holding.{Holding}
use Rattle.wdf_model.specs.declared.room.TheConstants.{OBJECTS}
use Rattle.wdf_model.specs.Tables.{ids_of}
use Rattle.wdf_model.specs.parts.Power.{Power, holding_of, is_held, no_holding, resume_due}
use Rattle.wdf_maps.specs.Counts.{is_at}
use Rattle.wdf_sets.specs.SetOf as sets

-- the queue that a request is held from, where it wasn't asked to stop
abbrev pub unasked_queue : Holding → Option ObjectId
unasked_queue h = if is_held h && not h.stop_asked then Some h.queue else None

-- the queue that a request is held from, where a resume is due for it; it is 0, the id of no queue, where the request is held
-- from no power-managed queue
abbrev pub resuming_queue : Holding → Option ObjectId
resuming_queue h = if h.resume_due then Some h.queue else None

-- a request is held and wasn't asked to stop
abbrev pub is_unasked : Power → ℕ → Bool
is_unasked P r = is_some (unasked_queue (holding_of P r))

-- the ids of these requests, rising
abbrev pub unasked : Power → List ℕ
unasked P = filter (is_unasked P) (ids_of P.holdings)

-- of those that are held from queue q
abbrev pub unasked_from : Power → ℕ → List ℕ
unasked_from P q = filter (λ r. is_at q (unasked_queue (holding_of P r))) (ids_of P.holdings)

-- some request is held from queue q and wasn't asked to stop
abbrev pub has_unasked : Power → ℕ → Bool
has_unasked P q = nat_lt 0 (length (unasked_from P q))

-- the ids of the requests for which a resume is due, rising
abbrev pub resuming : Power → List ℕ
resuming P = filter (λ r. resume_due P r) (ids_of P.holdings)

-- of those that are held from queue q. Who asks for queue 0 gets those that are held from no power-managed queue:
-- `goes_by_counts` of `wdf_offers` rests on it.
abbrev pub resuming_from : Power → ℕ → List ℕ
resuming_from P q = filter (λ r. is_at q (resuming_queue (holding_of P r))) (ids_of P.holdings)

-- a resume is due for some request that is held from queue q
abbrev pub has_resuming : Power → ℕ → Bool
has_resuming P q = nat_lt 0 (length (resuming_from P q))

-- The set has a bit for each object, and its members are the requests whose holding passes a test.
abbrev pub IsSetOf : (Holding → Bool) → List Holding → List Bool → Type 0
IsSetOf test all bits = sets.IsSetOf (sets.passes no_holding test all) OBJECTS bits
