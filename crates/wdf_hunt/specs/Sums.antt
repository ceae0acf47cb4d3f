-- What `sum` writes. (own)
use Rattle.std.specs.Prelude.{ℕ, ◌≡◌, ◌⊎◌, ◌+◌, ◌++◌, List, codes, decimal}
use Rattle.wdf_io.specs.Outside.{Rose}
use Rattle.wdf_input.specs.Input.{TakesAtMost, TakesCount}
use Rattle.wdf_input.specs.declared.input.TheConstants.{INPUT_LIMIT}
use Rattle.wdf_output.specs.declared.refusal.Refusal.{Refusal}
use Rattle.wdf_output.specs.declared.refusal.Refusal.TheVariants.{ReadFault, TooLarge, NoMemory, NoScene, NoPlan}
use Rattle.wdf_output.specs.Refusals.{no_memory_line}
use Rattle.wdf_output.specs.Said.{Sinking, Says}
use Rattle.wdf_top.specs.Top.{Sourcing, IsRead, IsTooLarge, IsReadFault, IsOutOfMemory}
use Rattle.wdf_table.specs.declared.row.Row.{Row}
use Rattle.wdf_table.specs.Tables.{IsTableOf}
use Rattle.wdf_table.specs.Lines.{table_text, table_status}
use Rattle.wdf_sum.specs.declared.refused.Why.{Why}
use Rattle.wdf_sum.specs.declared.refused.Why.TheVariants as why
use Rattle.wdf_sum.specs.declared.sum.Sum.{Sum}
use Rattle.wdf_sum.specs.Lines.{rows_in}
use Rattle.wdf_sum.specs.Sums.{IsRefusedAt, IsSumOf}

-- the word of a reason
abbrev pub sum_word : Why → List ℕ
sum_word why.NotALine = codes "NotALine"
sum_word why.WrongCount = codes "WrongCount"
sum_word why.TooMany = codes "TooMany"
sum_word why.CountedTwice = codes "CountedTwice"
sum_word why.Gap = codes "Gap"
sum_word why.Missing = codes "Missing"

-- the line of tables of which this line is refused
abbrev pub sum_line : ℕ → Why → List ℕ
sum_line line y = codes "refused at line " ++ decimal line ++ codes ": " ++ sum_word y ++ codes "\n"

-- The table of the sum of an input's tables: a row for each kind, in order, the last line, and the status.
pub record IsSumText (input text : List ℕ) (status : ℕ) : Type 0 where
  pub sum : Sum
  pub is : IsSumOf input sum
  pub rows : List Row
  pub table : IsTableOf (rows_in is.lines) rows
  pub text_is : text ≡ table_text rows sum.from sum.count sum.events
  pub status_is : status ≡ table_status rows

-- the first line that is wrong, with the status 6
pub record IsRefusedText (input text : List ℕ) (status : ℕ) : Type 0 where
  pub line : ℕ
  pub reason : Why
  pub refused : IsRefusedAt input line reason
  pub text_is : text ≡ sum_line line reason
  pub status_is : status ≡ 6

-- what is to be written of an input that was read
abbrev pub IsAdded : List ℕ → List ℕ → ℕ → Type 0
IsAdded input text status = IsSumText input text status ⊎ IsRefusedText input text status

-- what becomes of an input that was read: the table of the sum or why there is none, or the line `out of memory`; or a front of
-- either
abbrev pub TellsSumOf : List ℕ → Sinking → ℕ → Type 0
TellsSumOf input k answer = (text : List ℕ) × (status : ℕ) × (IsAdded input text status ⊎ ((text ≡ no_memory_line) × (status ≡ 15))) × Says k text status answer

-- why an input wasn't read to its end: a read failed, it is longer than it may be, or memory was refused
abbrev pub IsReadCauseOf : Sourcing → Refusal → Type 0
IsReadCauseOf s ReadFault = Rose s.faults_before s.faults_after × TakesAtMost s.before s.after INPUT_LIMIT
IsReadCauseOf s TooLarge = TakesCount s.before s.after (INPUT_LIMIT + 1) × (s.faults_after ≡ s.faults_before)
IsReadCauseOf s NoMemory = (s.faults_after ≡ s.faults_before) × TakesAtMost s.before s.after INPUT_LIMIT
IsReadCauseOf s (NoScene refusal) = ⊥
IsReadCauseOf s (NoPlan refusal) = ⊥

-- what is to be written, with its status
abbrev pub IsSumDue : Sourcing → List ℕ → ℕ → Type 0
IsSumDue s text status =
    ((input : List ℕ) × IsRead s input × IsAdded input text status) ⊎ (IsTooLarge s text status ⊎ (IsReadFault s text status ⊎ IsOutOfMemory s text status))

-- What `sum` answers and writes: what is due, with its status, or a front of it.
abbrev pub TellsSum : Sourcing → Sinking → ℕ → Type 0
TellsSum s k answer = (text : List ℕ) × (status : ℕ) × IsSumDue s text status × Says k text status answer
