-- What a worked run shows of the definitions.
use Rattle.std.specs.Prelude.{◌≡◌, ℕ, zero, suc, Bool, true, ◌&&◌, List, drop, length, Option, Some, None}
use Rattle.wdf_base.specs.declared.event.Event.{Event}
use Rattle.wdf_base.specs.declared.event.Ending.{Ending}
use Rattle.wdf_base.specs.declared.event.Fault.{Fault}
use Rattle.wdf_base.specs.declared.plan.Plan.{Plan}
use Rattle.wdf_base.specs.declared.wait.WaitLine.{WaitLine}
use Rattle.wdf_model.specs.State.{State, opening}
use Rattle.wdf_model.specs.rules.Steps.{after}
use Rattle.wdf_model.specs.rules.Ready.{ready_in, fault_in, unless_fault}
use Rattle.wdf_model.specs.agents.AnyAgent.{AnyAgent, agents}
use Rattle.law_machine_base.specs.Agreement.{agrees}
use Rattle.law_machine_base.specs.Course.{IsWorked, pick, run_by, waits_at}

-- whether a test holds in the state after an event, if there is one
abbrev also : (State AnyAgent → Option Fault → Bool) → Plan → State AnyAgent → Option Event → Bool
also next plan S None = true
also next plan S (Some e) = next (after plan agents S e) (fault_in e)

abbrev kept_from : ℕ → (State AnyAgent → Bool) → Plan → List ℕ → State AnyAgent → Option Fault → Bool
kept_from zero test plan picks S x = test S
kept_from (suc turns) test plan picks S x =
    test S && also (kept_from turns test plan (drop 1 picks)) plan S (pick picks (unless_fault x (ready_in plan agents S)))

-- whether a test holds in each state of the run of the plan's picks, so many events far
unfoldable pub is_kept : (State AnyAgent → Bool) → Plan → ℕ → Bool
is_kept test plan turns = kept_from turns test plan plan.picks (opening plan agents) None

-- The events are the run that the plan's picks determine, and it ends so. In each of its states the parts agree. These
-- are the lines of its wait list, which only a stuck run has.
pub record IsShown (plan : Plan) (events : List Event) (ending : Ending) (waits : List WaitLine) : Type 0 where
  pub worked : IsWorked plan events ending
  pub agree : is_kept (agrees plan) plan (length events) ≡ true
  pub stuck : waits_at (run_by plan (length events)) ≡ waits
