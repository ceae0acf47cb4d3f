-- Why a text has no case, and the line of a table.
use Rattle.std.proofs.Common.{ℕ, ◌≡◌, List, Result, Ok, Err, IfOk}
use Rattle.wdf_base.specs.declared.memory.Memory.{Memory}
use Rattle.wdf_output.specs.declared.refusal.Refusal.{Refusal}
use Rattle.wdf_output.specs.declared.refusal.Refusal.TheVariants.{ReadFault, TooLarge, NoMemory, NoScene, NoPlan}
use Rattle.wdf_top.specs.Causes.{IsTextCause}
use Rattle.wdf_table.specs.declared.row.Row.{Row}
use Rattle.wdf_table.specs.Tables.{IsTableOf}
use Rattle.wdf_tries.specs.declared.tried.Case.{Case}
use Rattle.wdf_tries.specs.declared.range.Hunted.{Hunted}
use Rattle.wdf_tries.specs.Tries.{IsHuntOf}
use Rattle.wdf_hunt.specs.declared.read.CaseRefusal.TheVariants.{Scenario}
use Rattle.wdf_hunt.specs.Suites.{IsNoCase, IsTableLine, table_answer, table_line}

-- a text has no plan
pub no_plan : (text : List ℕ) (refusal : Refusal) → IsTextCause text refusal → IsNoCase text (Scenario refusal)
no_plan text ReadFault cause = cause
no_plan text TooLarge cause = absurd cause
no_plan text NoMemory cause = tt
no_plan text (NoScene refusal) cause = cause
no_plan text (NoPlan refusal) cause = cause

-- the line of a table is that of the tries that it counts
pub table_told : (tried : Case) (from count number : ℕ) (name : List ℕ) (hunted : Hunted) (rows : List Row) (told : Result (List ℕ × ℕ) Memory) → (hunt : IsHuntOf tried from count hunted) → IsTableOf hunt.tries rows
    → IfOk told (λ line. (line.0 ≡ table_line number name rows) × (line.1 ≡ table_answer rows)) → IfOk told (λ line. IsTableLine number name tried from count line.0 line.1)
table_told tried from count number name hunted rows (Ok line) hunt table is = record {
  tries = hunt.tries;
  are = hunt.are;
  rows = rows;
  table = table;
  line_is = is.0;
  status_is = is.1;
}
table_told tried from count number name hunted rows (Err memory) hunt table is = tt
