-- Runs with the agents of the program, but for the targets: these never answer.
use Rattle.std.specs.Prelude.{◌≡◌, ℕ, List, Option, None}
use Rattle.wdf_base.specs.Meaning.{Meaning}
use Rattle.wdf_base.specs.declared.plan.Plan.{Plan}
use Rattle.wdf_base.specs.declared.event.Ending.TheVariants as ending
use Rattle.wdf_base.specs.declared.event.Event.{Event}
use Rattle.wdf_base.specs.declared.event.Post.{Post}
use Rattle.wdf_base.specs.declared.wait.WaitLine.{WaitLine}
use Rattle.wdf_model.specs.agents.AnyAgent.{AnyAgent, LowerTarget, agent_after, agent_at, agent_due, agent_next, agent_value}
use Rattle.wdf_model.specs.rules.Ready.{IsRunOf, ending_of}
use Rattle.wdf_model.specs.rules.Waits.{wait_list}

abbrev pub due_unless_target : AnyAgent → Option Post
due_unless_target (LowerTarget t) = None
due_unless_target a = agent_due a

abbrev pub next_unless_target : AnyAgent → Option ℕ
next_unless_target (LowerTarget t) = None
next_unless_target a = agent_next a

abbrev pub silent : Meaning AnyAgent
silent = record { begin = agent_at; fold = agent_after; due = due_unless_target; next = next_unless_target; value = agent_value }

-- the events are a run with these agents, which ends stuck with this wait list
pub record IsSilentRun (plan : Plan) (events : List Event) (waits : List WaitLine) : Type 0 where
  pub run : IsRunOf plan silent events
  pub stuck : ending_of plan silent events ≡ ending.Stuck
  pub lines : wait_list plan silent events ≡ waits
