-- What is so at each place of every run, whatever the plan and the agents are.
use Rattle.std.specs.Prelude.{◌≡◌, ℕ, Bool, true, List, take}
use Rattle.wdf_base.specs.Meaning.{Meaning}
use Rattle.wdf_base.specs.declared.plan.Plan.{Plan}
use Rattle.wdf_base.specs.declared.event.Event.{Event}
use Rattle.wdf_model.specs.State.{State}
use Rattle.wdf_model.specs.rules.Ready.{IsRunOf, state_after}

-- the state at each place of every run of each plan passes a test
abbrev pub AtEachPlace : {A : Type 0} → (Plan → State A → Bool) → Type 0
AtEachPlace {A} test = (plan : Plan) (m : Meaning A) (run : List Event) → IsRunOf plan m run → (n : ℕ) → test plan (state_after plan m (take n run)) ≡ true
