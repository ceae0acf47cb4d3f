-- What a run that was written is. (own)
use Rattle.std.specs.Prelude.{ℕ, ◌≡◌, ◌≢◌, ◌==◌, ◌||◌, ⊤, Bool, true, List, Some, slice_get, take}
use Rattle.wdf_base.specs.declared.plan.Plan.{Plan}
use Rattle.wdf_base.specs.declared.event.Event.{Event}
use Rattle.wdf_base.specs.declared.event.Ending.{Ending}
use Rattle.wdf_base.specs.declared.event.Ending.TheVariants as ending
use Rattle.wdf_model.specs.rules.Ready.{ending_of, IsRunOf}
use Rattle.wdf_run_text.specs.Texts.{text_of}
use Rattle.wdf_io.specs.Outside.{Gains}
use Rattle.wdf_output.specs.Endings.{status_of}
use Rattle.wdf_output.specs.Said.{Sinking}
use Rattle.law_trace_all.specs.Kept.{KeepsLaws}
use Rattle.law_idle.specs.Law.{KeepsIdleLaw}
use Rattle.law_stack.specs.Laws.{stack_law}
use Rattle.wdf_top.specs.Agents.{RunAgents, Usual, Idle, Stacked, meaning_of}
use Rattle.wdf_top.specs.Answers.{HasPlan, IsRunBy, Picking}
use Rattle.wdf_top.specs.Top.{Sourcing, IsRead}

-- the statuses of a run that has ended
abbrev pub is_end_status : ℕ → Bool
is_end_status n = n == 0 || n == 3 || n == 4 || n == 5

-- each event of a run with stacks of devices keeps the laws on stacks: each arrival by a connector belongs to a Send; each
-- `done` by one has its cause in the events before it; a device is asked to start or wake only while the one below it works,
-- and to sleep or go only while the one above it doesn't
abbrev pub KeepsStackLaws : Plan → List Event → Type 0
KeepsStackLaws plan run = (k : ℕ) (e : Event) → slice_get run k ≡ Some e → stack_law plan (take k run) e ≡ true

-- The laws that runs with these agents keep beside the nine. With the idle policy: when time passes no device sleeps with a
-- pending request, and none that is idle is awake past its timeout. One that no line of `pnp` puts to sleep does so exactly when
-- it has been idle that long; one that no line of `pnp` wakes is woken for a request alone.
abbrev pub KeepsAgentLaws : RunAgents → Plan → List Event → Type 0
KeepsAgentLaws Usual plan run = ⊤
KeepsAgentLaws Idle plan run = KeepsIdleLaw plan run
KeepsAgentLaws Stacked plan run = KeepsStackLaws plan run

-- The headline: the whole input was read and it has a plan. What was written is the text of a run of the written machine
-- from the plan's opening, every answer included, with these agents and picked so. That run has ended, the status is its
-- ending's, and it keeps the nine laws of a trace and those of its agents.
pub record WroteSomeRun (a : RunAgents) (by : Picking) (s : Sourcing) (k : Sinking) (status : ℕ) : Type 0 where
  pub input : List ℕ
  pub whole : IsRead s input
  pub plan : Plan
  pub stands : HasPlan input plan
  pub run : List Event
  pub runs : IsRunOf plan (meaning_of a) run
  pub made : IsRunBy plan (meaning_of a) by run
  pub ended : ending_of plan (meaning_of a) run ≢ ending.Running
  pub status_is : status ≡ status_of (ending_of plan (meaning_of a) run)
  pub keeps : KeepsLaws plan run
  pub keeps_own : KeepsAgentLaws a plan run
  pub written : Gains k.before k.after (text_of plan (meaning_of a) run)
  pub unfailed : k.faults_after ≡ k.faults_before

-- the same, and the run ended so
abbrev pub WroteRunTo : RunAgents → Picking → Sourcing → Sinking → ℕ → Ending → Type 0
WroteRunTo a by s k status e = (wrote : WroteSomeRun a by s k status) × (ending_of wrote.plan (meaning_of a) wrote.run ≡ e)
