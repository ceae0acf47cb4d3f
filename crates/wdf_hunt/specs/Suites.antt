-- A suite of scenarios: a line in TAP for each file. (own)
use Rattle.std.specs.Prelude.{if◌then◌else◌, ℕ, ◌≡◌, ◌⊎◌, ◌==◌, ◌<◌, ◌++◌, List, codes, decimal, length, Option, Some, None, Ok, Err}
use Rattle.wdf_scene.specs.declared.scene.Scene.{Scene}
use Rattle.wdf_parse.specs.declared.parsing.TheConstants.{TEXT_LIMIT}
use Rattle.wdf_parse.specs.StandsFor.{StandsFor}
use Rattle.wdf_refusals.specs.First.{first_refusal}
use Rattle.wdf_output.specs.declared.refusal.Refusal.TheVariants.{NoMemory, TooLarge}
use Rattle.wdf_top.specs.Causes.{IsTextCause}
use Rattle.wdf_expect.specs.Reading.{expectations_of}
use Rattle.wdf_table.specs.declared.row.Row.{Row}
use Rattle.wdf_table.specs.Tables.{IsTableOf}
use Rattle.wdf_table.specs.Lines.{table_status, worst_row}
use Rattle.wdf_tries.specs.declared.tried.Case.{Case}
use Rattle.wdf_tries.specs.Tries.{AreTries}
use Rattle.wdf_hunt.specs.declared.read.CaseRefusal.{CaseRefusal}
use Rattle.wdf_hunt.specs.declared.read.CaseRefusal.TheVariants.{Scenario, Unread}
use Rattle.wdf_hunt.specs.Cases.{case_refusal_line}

-- ---- texts

-- a text's scene has a plan
abbrev pub IsSceneOf : List ℕ → Scene → Type 0
IsSceneOf text scene = StandsFor text scene × (first_refusal scene ≡ None)

-- a text's case, in which nothing is moved
abbrev pub IsCaseOf : List ℕ → Case → Type 0
IsCaseOf text tried = IsSceneOf text tried.scene × (expectations_of text ≡ Ok tried.expectations) × (tried.jitter ≡ 0)

-- why a text has none
abbrev pub IsNoCase : List ℕ → CaseRefusal → Type 0
IsNoCase text (Scenario TooLarge) = TEXT_LIMIT < length text
IsNoCase text (Scenario NoMemory) = Unit {0}
IsNoCase text (Scenario refusal) = IsTextCause text refusal
IsNoCase text (Unread line) = (scene : Scene) × IsSceneOf text scene × (expectations_of text ≡ Err line)

-- ---- lines

-- the number and the name of a file
abbrev pub heading : ℕ → List ℕ → List ℕ
heading number name = decimal number ++ codes " - " ++ name

abbrev pub good_line : ℕ → List ℕ → List ℕ
good_line number name = codes "ok " ++ heading number name ++ codes "\n"

-- a file isn't as it should be, for this reason, which ends in a line feed
abbrev pub bad_line : ℕ → List ℕ → List ℕ → List ℕ
bad_line number name reason = codes "not ok " ++ heading number name ++ codes " # " ++ reason

-- the seed of a row, how many events its run has, and its kind
abbrev pub row_reason : Option Row → List ℕ
row_reason None = codes "\n"
row_reason (Some row) = codes "seed " ++ decimal row.seed ++ codes " in " ++ decimal row.events ++ codes " events: " ++ row.kind ++ codes "\n"

-- the line of a file with this table: all is well where the table's status is 0, and else its first row of the worst kind is shown
abbrev pub table_line : ℕ → List ℕ → List Row → List ℕ
table_line number name rows = if table_status rows == 0 then good_line number name else bad_line number name (row_reason (worst_row rows))

abbrev pub table_answer : List Row → ℕ
table_answer rows = if table_status rows == 0 then 0 else 1

-- the line of a file with this case: its table over the seeds of a range
pub record IsTableLine (number : ℕ) (name : List ℕ) (tried : Case) (from count : ℕ) (line : List ℕ) (status : ℕ) : Type 0 where
  pub tries : List Row
  pub are : AreTries tried from count tries
  pub rows : List Row
  pub table : IsTableOf tries rows
  pub line_is : line ≡ table_line number name rows
  pub status_is : status ≡ table_answer rows

-- The line of a file with this text, and 0 where all is well, else 1.
abbrev pub IsTextLine : ℕ → List ℕ → List ℕ → ℕ → ℕ → List ℕ → ℕ → Type 0
IsTextLine number name text from count line status =
    ((tried : Case) × IsCaseOf text tried × IsTableLine number name tried from count line status)
    ⊎ ((refusal : CaseRefusal) × IsNoCase text refusal × (line ≡ bad_line number name (case_refusal_line refusal)) × (status ≡ 1))
