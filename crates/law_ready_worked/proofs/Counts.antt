-- How many events may follow the first events of a run, computed with the state carried along.
use Rattle.std.proofs.Common.{◌≡◌, ℕ, zero, suc, ◌≤◌, List, [], ◌∷◌, ◌++◌, length, take, Option, None, slice_index_or, append-nil, append_assoc, refl, arith}
use Rattle.wdf_base.specs.declared.event.Event.{Event}
use Rattle.wdf_base.specs.declared.event.Fault.{Fault}
use Rattle.wdf_base.specs.declared.plan.Plan.{Plan}
use Rattle.wdf_model.specs.State.{State, opening}
use Rattle.wdf_model.specs.agents.AnyAgent.{AnyAgent, agents}
use Rattle.wdf_model.specs.rules.Ready.{fault_in, last_fault, ready, ready_in, state_after, unless_fault}
use Rattle.wdf_model.specs.rules.Steps.{after}
use Rattle.law_machine_base.proofs.Follows.{last_fault_of, state_goes_on}
use Rattle.law_machine_worked.specs.RunsOfSerial.{serial_port_plan, serial_port_events}

-- how many events may follow in a state
abbrev count_in : Plan → State AnyAgent → Option Fault → ℕ
count_in plan S x = length (unless_fault x (ready_in plan agents S))

-- how many may follow in a state, and after each of these events more
abbrev counts_from : Plan → State AnyAgent → Option Fault → List Event → List ℕ
counts_from plan S x [] = count_in plan S x ∷ []
counts_from plan S x (e ∷ es) = count_in plan S x ∷ counts_from plan (after plan agents S e) (fault_in e) es

-- what is counted is what may follow
counted : (plan : Plan) (run more : List Event) (k : ℕ) → k ≤ length more
    → slice_index_or (counts_from plan (state_after plan agents run) (last_fault run) more) k 0 ≡ length (ready plan agents (run ++ take k more))
unfolding ready
counted plan run [] zero h = rw (append-nil run) refl
counted plan run (e ∷ es) zero h = rw (append-nil run) refl
counted plan run [] (suc k) h = absurd (omega (h, arith))
counted plan run (e ∷ es) (suc k) h =
    let next : slice_index_or (counts_from plan (state_after plan agents (run ++ e ∷ [])) (last_fault (run ++ e ∷ [])) es) k 0 ≡ length (ready plan agents ((run ++ e ∷ []) ++ take k es))
    = counted plan (run ++ e ∷ []) es k (omega (h, arith)) in
    let here : slice_index_or (counts_from plan (after plan agents (state_after plan agents run) e) (fault_in e) es) k 0 ≡ length (ready plan agents ((run ++ e ∷ []) ++ take k es))
    = rw (← state_goes_on plan agents run e, ← last_fault_of run e) next in
    rw (← append_assoc run (e ∷ []) (take k es)) here

-- how many events may follow the first events of the serial port's run, for each number of events from 0 on
abbrev pub AreCounted : List ℕ → Type 0
AreCounted counts = counts_from serial_port_plan (opening serial_port_plan agents) None serial_port_events ≡ counts

pub serial_port : (counts : List ℕ) (k : ℕ) → AreCounted counts → k ≤ 161 → slice_index_or counts k 0 ≡ length (ready serial_port_plan agents (take k serial_port_events))
unfolding state_after
serial_port counts k same h = rw (← same) (counted serial_port_plan [] serial_port_events k h)
