-- What the program answers and what it writes, for each form of words. (own)
use Rattle.std.specs.Prelude.{ℕ, ◌≡◌, ◌≤◌, ◌+◌, ◌⊎◌, Bool, true, false, List, length, codes, Option, None, Some}
use Rattle.wdf_io.specs.Outside.{Rose}
use Rattle.wdf_parse.specs.Printing.{printed}
use Rattle.wdf_gen.specs.Generated.{generated}
use Rattle.wdf_base.specs.Meaning.{Meaning}
use Rattle.wdf_base.specs.declared.plan.Plan.{Plan}
use Rattle.wdf_top.specs.declared.words.Form.{Form}
use Rattle.wdf_top.specs.declared.words.Form.TheVariants as form
use Rattle.wdf_top.specs.declared.run.Picks.TheVariants.{Listed, Seeded}
use Rattle.wdf_input.specs.declared.input.TheConstants.{INPUT_LIMIT}
use Rattle.wdf_top.specs.Agents.{Usual, Idle, Stacked}
use Rattle.wdf_top.specs.Answers.{Answering, Answers, Reading, Canonical, Run, Judgement, Findings, Picking, By, answering_of, IsTraceOf, IsVerdict, IsSummaryOf, IsLinted}
use Rattle.wdf_input.specs.Input.{TakesAll, TakesCount, TakesAtMost}
use Rattle.wdf_output.specs.Refusals.{read_fault_line, too_large_line, no_memory_line}
use Rattle.wdf_output.specs.Said.{Sinking, Says}

abbrev pub usage_line : List ℕ
usage_line = codes "usage: kmdfsim check | order | seed N | run | replay | gen N | load N | idle | stack | lint | watch\n"

-- what a source has left and how many faults it has counted, before a call and after it
pub record Sourcing : Type 0 where
  pub before : Option (List ℕ)
  pub after : Option (List ℕ)
  pub faults_before : ℕ
  pub faults_after : ℕ

abbrev pub sourcing : Option (List ℕ) → Option (List ℕ) → ℕ → ℕ → Sourcing
sourcing before after faults_before faults_after =
    record { before = before; after = after; faults_before = faults_before; faults_after = faults_after }

-- nothing was read
abbrev pub IsUnread : Sourcing → Type 0
IsUnread s = (s.after ≡ s.before) × (s.faults_after ≡ s.faults_before)

-- the whole input was read, within the limit, and no read failed
abbrev pub IsRead : Sourcing → List ℕ → Type 0
IsRead s input = TakesAll s.before s.after input × (length input ≤ INPUT_LIMIT) × (s.faults_after ≡ s.faults_before)

-- the whole input was read, and this is its answer
abbrev pub IsAnswered : Answering → Sourcing → List ℕ → ℕ → Type 0
IsAnswered a s text status = (input : List ℕ) × IsRead s input × Answers a input text status

-- a byte past the limit was read, and none after it
abbrev pub IsTooLarge : Sourcing → List ℕ → ℕ → Type 0
IsTooLarge s text status = TakesCount s.before s.after (INPUT_LIMIT + 1) × (s.faults_after ≡ s.faults_before) × (text ≡ too_large_line) × (status ≡ 14)

-- a read failed
abbrev pub IsReadFault : Sourcing → List ℕ → ℕ → Type 0
IsReadFault s text status = Rose s.faults_before s.faults_after × TakesAtMost s.before s.after INPUT_LIMIT × (text ≡ read_fault_line) × (status ≡ 12)

-- out of memory
abbrev pub IsOutOfMemory : Sourcing → List ℕ → ℕ → Type 0
IsOutOfMemory s text status = (s.faults_after ≡ s.faults_before) × TakesAtMost s.before s.after INPUT_LIMIT × (text ≡ no_memory_line) × (status ≡ 15)

-- what a form that reads its input is to write, with its status
abbrev pub IsReadDue : Answering → Sourcing → List ℕ → ℕ → Type 0
IsReadDue a s text status = IsAnswered a s text status ⊎ (IsTooLarge s text status ⊎ (IsReadFault s text status ⊎ IsOutOfMemory s text status))

-- what such a form answers and writes: the text that is due, with its status, or a front of it
abbrev pub TellsBy : Answering → Sourcing → Sinking → ℕ → Type 0
TellsBy a s k answer = (text : List ℕ) × (status : ℕ) × IsReadDue a s text status × Says k text status answer

-- what words ask for
pub data Service : Type 0 where
  -- the words are no form
  Usage : Service
  -- they are a form that reads its input
  Reads : Reading → Service
  -- the scenario that a number generates
  Scenario : ℕ → Service
  -- the summary of its run by the number's words
  Summary : ℕ → Service

-- What each form of words asks for, a row for each.
abbrev pub service_of : Option Form → Service
service_of None = Usage
service_of (Some form.Check) = Reads Canonical
service_of (Some form.Order) = Reads (Run Usual (By Listed))
service_of (Some (form.Seed n)) = Reads (Run Usual (By (Seeded n)))
service_of (Some form.Replay) = Reads Judgement
service_of (Some (form.Gen n)) = Scenario n
service_of (Some (form.Load n)) = Summary n
service_of (Some form.Idle) = Reads (Run Idle (By Listed))
service_of (Some form.Stack) = Reads (Run Stacked (By Listed))
service_of (Some form.Lint) = Reads Findings

-- they are a form that reads its input
abbrev pub reads_input : Service → Bool
reads_input (Reads r) = true
reads_input _ = false

-- the scenario in an input: for `replay` the bytes before its first line `trace`, else all
abbrev pub scenario_by : Service → List ℕ → List ℕ
scenario_by (Reads r) input = (answering_of r).scenario input
scenario_by _ input = input

-- the text of the scenario that a number generates, or the line `out of memory`
abbrev pub IsScenario : ℕ → List ℕ → ℕ → Type 0
IsScenario n text status = ((text ≡ printed (generated n)) × (status ≡ 0)) ⊎ ((text ≡ no_memory_line) × (status ≡ 15))

-- the summary of a generated scenario's run, or the line `out of memory`
abbrev pub IsSummary : ℕ → List ℕ → ℕ → Type 0
IsSummary n text status = IsSummaryOf n text status ⊎ ((text ≡ no_memory_line) × (status ≡ 15))

-- What is to be written, with its status.
abbrev pub IsDue : Service → Sourcing → List ℕ → ℕ → Type 0
IsDue Usage s text status = IsUnread s × (text ≡ usage_line) × (status ≡ 2)
IsDue (Reads r) s text status = IsReadDue (answering_of r) s text status
IsDue (Scenario n) s text status = IsUnread s × IsScenario n text status
IsDue (Summary n) s text status = IsUnread s × IsSummary n text status

-- What is answered and written: the text that is due, with its status, or a front of it.
abbrev pub Tells : Service → Sourcing → Sinking → ℕ → Type 0
Tells service s k answer = (text : List ℕ) × (status : ℕ) × IsDue service s text status × Says k text status answer

-- What becomes of a plan: the text of a run of it that is picked so, or the line `out of memory`; or a front of either.
abbrev pub TellsPlan : {A : Type 0} → Plan → Meaning A → Picking → Sinking → ℕ → Type 0
TellsPlan plan m by k answer = (text : List ℕ) × (status : ℕ) × (IsTraceOf plan m by text status ⊎ ((text ≡ no_memory_line) × (status ≡ 15))) × Says k text status answer

-- What becomes of a trace: the line of the verdict, or the line `out of memory`; or a front of either.
abbrev pub TellsVerdict : Plan → List ℕ → Sinking → ℕ → Type 0
TellsVerdict plan trace k answer = (text : List ℕ) × (status : ℕ) × (IsVerdict plan trace text status ⊎ ((text ≡ no_memory_line) × (status ≡ 15))) × Says k text status answer

-- What becomes of the scripts of a plan: what the static check finds, or the line `out of memory`; or a front of either.
abbrev pub TellsFindings : Plan → Sinking → ℕ → Type 0
TellsFindings plan k answer = (text : List ℕ) × (status : ℕ) × (IsLinted plan text status ⊎ ((text ≡ no_memory_line) × (status ≡ 15))) × Says k text status answer

-- What becomes of a number that generates a scenario: its text, or the line `out of memory`; or a front of either.
abbrev pub TellsScenario : ℕ → Sinking → ℕ → Type 0
TellsScenario n k answer = (text : List ℕ) × (status : ℕ) × IsScenario n text status × Says k text status answer

-- What becomes of a number whose scenario is run: the summary, or the line `out of memory`; or a front of either.
abbrev pub TellsSummary : ℕ → Sinking → ℕ → Type 0
TellsSummary n k answer = (text : List ℕ) × (status : ℕ) × IsSummary n text status × Says k text status answer
