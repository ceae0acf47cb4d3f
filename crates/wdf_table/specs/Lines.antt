-- What is written of a table, and its status. (own)
use Rattle.std.specs.Prelude.{if◌then◌else◌, ℕ, ◌==◌, ◌+◌, ◌-◌, ◌++◌, Bool, List, [], ◌∷◌, codes, decimal, fold, min, nat_eq, Option}
use Rattle.std.specs.List.{find, starts_with}
use Rattle.wdf_table.specs.declared.row.Row.{Row}

-- ---- statuses

-- the status of a run of this kind: 1 where it breaks what is expected, 3 for a fault, 4 where it is stuck, 5 at its limit, and
-- else 0
abbrev pub kind_status : List ℕ → ℕ
kind_status kind =
    if starts_with nat_eq kind (codes "broken: ") then 1
    else (if starts_with nat_eq kind (codes "fault ") then 3
    else (if starts_with nat_eq kind (codes "stuck") then 4
    else (if starts_with nat_eq kind (codes "limit") then 5
    else 0)))

-- the worse of two statuses: 1, then 3, 4 and 5, then 0
abbrev pub worse : ℕ → ℕ → ℕ
worse a b = if a == 0 then b else (if b == 0 then a else min a b)

-- The status of a table: that of its worst kind, and 0 where each run finished, or ended as expected.
abbrev pub table_status : List Row → ℕ
table_status rows = fold (λ status row. worse status (kind_status row.kind)) 0 rows

-- a row is of a kind with this status
abbrev pub has_status : ℕ → Row → Bool
has_status status row = kind_status row.kind == status

-- the first row of the worst kind
unfoldable pub worst_row : List Row → Option Row
worst_row rows = find (has_status (table_status rows)) rows

-- ---- lines

-- the line of a row: how many seeds, one of them, how many events its run has, and their kind
abbrev pub row_text : Row → List ℕ
row_text row =
    decimal row.count ++ codes " seeds, seed " ++ decimal row.seed ++ codes " in " ++ decimal row.events ++ codes " events: " ++ row.kind ++ codes "\n"

-- a line for each row
abbrev pub row_lines : List Row → List ℕ
row_lines [] = []
row_lines (row ∷ rows) = row_text row ++ row_lines rows

-- the last line: from which seed to which, how many runs and how many events
abbrev pub total_text : ℕ → ℕ → ℕ → List ℕ
total_text from count events =
    codes "seeds " ++ decimal from ++ codes " to " ++ decimal (from + count - 1) ++ codes ": " ++ decimal count ++ codes " runs, " ++ decimal events ++ codes " events\n"

-- What is written of a table of so many seeds from this one on, whose runs have so many events.
abbrev pub table_text : List Row → ℕ → ℕ → ℕ → List ℕ
table_text rows from count events = row_lines rows ++ total_text from count events
