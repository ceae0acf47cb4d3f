-- When an input is shown, and when and why it isn't. (own)
use Rattle.std.specs.Prelude.{ℕ, ◌≡◌, ◌≤◌, ◌<◌, ◌+◌, ◌⊎◌, List, length, Option, None, Some}
use Rattle.wdf_base.specs.declared.plan.Plan.{Plan}
use Rattle.wdf_base.specs.declared.event.Ending.{Ending}
use Rattle.wdf_scene.specs.declared.scene.Scene.{Scene}
use Rattle.wdf_dev.specs.Agents.{agent_meaning}
use Rattle.wdf_parse.specs.StandsFor.{StandsFor}
use Rattle.wdf_parse.specs.Texts.{IsRefusalOf, reading}
use Rattle.wdf_parse.specs.Laws.{IsNoScene}
use Rattle.wdf_refusals.specs.declared.refusal.PlanRefusal.TheVariants as plan
use Rattle.wdf_refusals.specs.First.{first_refusal}
use Rattle.wdf_plan.specs.Plans.{plan_of}
use Rattle.wdf_replay.specs.declared.verdict.Why.{Why}
use Rattle.wdf_replay.specs.Refused.{refused_line}
use Rattle.wdf_replay.specs.Verdicts as verdict
use Rattle.wdf_split.specs.Inputs.{scenario_in, trace_in}
use Rattle.wdf_io.specs.Outside.{Rose}
use Rattle.wdf_parse.specs.declared.parsing.TheConstants.{TEXT_LIMIT}
use Rattle.wdf_input.specs.Input.{TakesAll, TakesCount, TakesAtMost}
use Rattle.wdf_output.specs.declared.refusal.Refusal.{Refusal}
use Rattle.wdf_output.specs.declared.refusal.Refusal.TheVariants.{ReadFault, TooLarge, NoMemory, NoScene, NoPlan}
use Rattle.wdf_output.specs.Refusals.{refusal_line, refusal_status}
use Rattle.wdf_view.specs.declared.read.TheConstants.{RUN_LIMIT}
use Rattle.wdf_view.specs.declared.bad.Bad.{Bad}
use Rattle.wdf_view.specs.declared.bad.Bad.TheVariants.{Unread, BadTrace}

-- what a source has left and how many faults it has counted, before a call and after it
pub record Sourcing : Type 0 where
  pub before : Option (List ℕ)
  pub after : Option (List ℕ)
  pub faults_before : ℕ
  pub faults_after : ℕ

abbrev pub sourcing : Option (List ℕ) → Option (List ℕ) → ℕ → ℕ → Sourcing
sourcing before after faults_before faults_after =
    record { before = before; after = after; faults_before = faults_before; faults_after = faults_after }

-- nothing was read
abbrev pub IsUnread : Sourcing → Type 0
IsUnread s = (s.after ≡ s.before) × (s.faults_after ≡ s.faults_before)

-- the whole input was read, within the limit, and no read failed
abbrev pub IsRead : Sourcing → List ℕ → Type 0
IsRead s input = TakesAll s.before s.after input × (length input ≤ RUN_LIMIT) × (s.faults_after ≡ s.faults_before)

-- why an input wasn't read to its end: a read failed, it has more bytes than it may, or memory was refused
abbrev pub IsReadCause : Sourcing → Refusal → Type 0
IsReadCause s ReadFault = Rose s.faults_before s.faults_after × TakesAtMost s.before s.after RUN_LIMIT
IsReadCause s TooLarge = TakesCount s.before s.after (RUN_LIMIT + 1) × (s.faults_after ≡ s.faults_before)
IsReadCause s NoMemory = (s.faults_after ≡ s.faults_before) × TakesAtMost s.before s.after RUN_LIMIT
IsReadCause s (NoScene refusal) = ⊥
IsReadCause s (NoPlan refusal) = ⊥

-- a scene stands for the text, and this is its plan
abbrev pub HasPlan : List ℕ → Plan → Type 0
HasPlan text plan = (scene : Scene) × StandsFor text scene × (first_refusal scene ≡ None) × (plan ≡ plan_of scene)

-- why a text has no plan, or is none of a scenario; memory may be refused
abbrev pub IsTextCause : List ℕ → Refusal → Type 0
IsTextCause text ReadFault = ⊥
IsTextCause text TooLarge = TEXT_LIMIT < length text
IsTextCause text NoMemory = ⊥
IsTextCause text (NoScene refusal) = IsRefusalOf (reading text) refusal × IsNoScene text refusal
IsTextCause text (NoPlan refusal) = (scene : Scene) × StandsFor text scene × ((refusal ≡ plan.Memory) ⊎ (first_refusal scene ≡ Some refusal))

-- the plan's trace is the text of a run that has ended
abbrev pub IsAcceptedBy : Plan → List ℕ → Type 0
IsAcceptedBy plan trace = (ending : Ending) × verdict.IsAccepted plan agent_meaning trace ending

-- an input that is shown: its scenario has a plan, and its trace is the text of a run of it that has ended
abbrev pub IsShown : List ℕ → Type 0
IsShown input = (plan : Plan) × HasPlan (scenario_in input) plan × IsAcceptedBy plan (trace_in input)

-- a bad trace, whose first bad line is this one, for this reason
abbrev pub IsBadTrace : List ℕ → ℕ → Why → Type 0
IsBadTrace input line y = (plan : Plan) × HasPlan (scenario_in input) plan × verdict.IsRefused plan agent_meaning (trace_in input) line y

-- why the trace of a plan isn't shown; memory may be refused at any time
abbrev pub IsTraceCause : Plan → List ℕ → Bad → Type 0
IsTraceCause plan trace (Unread NoMemory) = Unit {0}
IsTraceCause plan trace (Unread refusal) = ⊥
IsTraceCause plan trace (BadTrace line y) = verdict.IsRefused plan agent_meaning trace line y

-- a source's whole input was read, and is shown
abbrev pub IsShownFrom : Sourcing → Type 0
IsShownFrom s = (input : List ℕ) × IsRead s input × IsShown input

-- why an input that was read isn't shown; memory may be refused at any time
abbrev pub IsInputCause : List ℕ → Bad → Type 0
IsInputCause input (Unread NoMemory) = Unit {0}
IsInputCause input (Unread refusal) = IsTextCause (scenario_in input) refusal
IsInputCause input (BadTrace line y) = IsBadTrace input line y

-- why there is no picture, a row for each reason
abbrev pub IsCause : Sourcing → Bad → Type 0
IsCause s (Unread ReadFault) = IsReadCause s ReadFault
IsCause s (Unread TooLarge) = IsReadCause s TooLarge ⊎ ((input : List ℕ) × IsRead s input × IsTextCause (scenario_in input) TooLarge)
IsCause s (Unread NoMemory) = IsReadCause s NoMemory
IsCause s (Unread (NoScene refusal)) = (input : List ℕ) × IsRead s input × IsTextCause (scenario_in input) (NoScene refusal)
IsCause s (Unread (NoPlan refusal)) = (input : List ℕ) × IsRead s input × IsTextCause (scenario_in input) (NoPlan refusal)
IsCause s (BadTrace line y) = (input : List ℕ) × IsRead s input × IsBadTrace input line y

-- ---- what is written then: the lines and statuses of `kmdfsim replay`

abbrev pub bad_line : Bad → List ℕ
bad_line (Unread refusal) = refusal_line refusal
bad_line (BadTrace line y) = refused_line line y

abbrev pub bad_status : Bad → ℕ
bad_status (Unread refusal) = refusal_status refusal
bad_status (BadTrace line y) = 6
