-- Free runs: at each event the agents may be of any meaning. So any post may come that fits, a register or a level
-- line may show anything, what agents hear changes nothing that counts, and time may pass at any place. Events are
-- not counted against the limit. (own)
use Rattle.std.specs.Prelude.{◌≡◌, ◌⊎◌, ℕ, ◌+◌, true, List, take, Some, None, slice_get}
use Rattle.wdf_base.specs.Meaning.{Meaning}
use Rattle.wdf_base.specs.declared.plan.Plan.{Plan}
use Rattle.wdf_base.specs.declared.event.Event.{Event}
use Rattle.wdf_base.specs.declared.event.Event.TheVariants as event
use Rattle.wdf_model.specs.State.{State, opening}
use Rattle.wdf_model.specs.rules.Steps.{after, may}
use Rattle.wdf_model.specs.rules.Ready.{last_fault}

-- an event that may come for agents of some meaning, or a tick; with the state after it
pub record FreeStep {A : Type 0} (plan : Plan) (S : State A) (e : Event) (T : State A) : Type 0 where
  pub meaning : Meaning A
  pub may_come : (may plan meaning S e ≡ true) ⊎ ((time : ℕ) × (e ≡ event.Tick time))
  pub leads : T ≡ after plan meaning S e

-- Each event of a free run may come after those before it, and none comes after a fault.
pub record IsFreeRun (A : Type 0) (plan : Plan) (run : List Event) : Type 0 where
  -- the state before each event
  pub states : ℕ → State A
  pub meaning : Meaning A
  pub opens : states 0 ≡ opening plan meaning
  pub goes : (k : ℕ) (e : Event) → slice_get run k ≡ Some e → FreeStep plan (states k) e (states (k + 1))
  pub ends : (k : ℕ) (e : Event) → slice_get run k ≡ Some e → last_fault (take k run) ≡ None
