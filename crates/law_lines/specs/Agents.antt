-- Agents whose numbers fit 64 bits, as long as they hear events of the plan alone.
use Rattle.std.specs.Prelude.{◌≡◌, ℕ, ◌^◌, ◌<◌, List, fold, Some}
use Rattle.wdf_base.specs.Meaning.{Meaning}
use Rattle.wdf_base.specs.declared.plan.Plan.{Plan}
use Rattle.wdf_base.specs.declared.event.Event.{Event}
use Rattle.wdf_base.specs.declared.event.Post.{Post}
use Rattle.wdf_run_text.specs.Texts.{HasEventsOf}
use Rattle.law_lines.specs.PostNumbers.{PostNumbersFit}

-- the agent with this number, after it has heard these events
abbrev pub agent_after_events : {A : Type 0} → Plan → Meaning A → ℕ → List Event → A
agent_after_events plan m agent events = fold m.fold (m.begin plan agent) events

-- Whatever events of the plan an agent has heard, the numbers of what it posts and what it shows fit 64 bits.
pub record HasFittingAgents {A : Type 0} (plan : Plan) (m : Meaning A) : Type 0 where
  pub posts : (agent : ℕ) (events : List Event) (p : Post) → HasEventsOf plan events → m.due (agent_after_events plan m agent events) ≡ Some p → PostNumbersFit p
  pub values : (agent what : ℕ) (events : List Event) → HasEventsOf plan events → m.value (agent_after_events plan m agent events) what < 2 ^ 64
