-- A status of a table is one of five.
use Rattle.std.proofs.Common.{if◌then◌else◌, ℕ, ◌≤◌, ◌==◌, Bool, true, false, List, [], ◌∷◌, codes, fold, min, nat_eq, arith}
use Rattle.std.specs.List.{starts_with}
use Rattle.wdf_table.specs.declared.row.Row.{Row}
use Rattle.wdf_table.specs.Lines.{kind_status, worse, table_status}

by_tests : (r a b c : Bool) → (if r then 1 else (if a then 3 else (if b then 4 else (if c then 5 else 0)))) ≤ 5
by_tests true a b c = omega arith
by_tests false true b c = omega arith
by_tests false false true c = omega arith
by_tests false false false true = omega arith
by_tests false false false false = omega arith

kind_small : (kind : List ℕ) → kind_status kind ≤ 5
kind_small kind = by_tests (starts_with nat_eq kind (codes "broken: ")) (starts_with nat_eq kind (codes "fault ")) (starts_with nat_eq kind (codes "stuck")) (starts_with nat_eq kind (codes "limit"))

worse_by : (a b : ℕ) (p q : Bool) → a ≤ 5 → b ≤ 5 → (if p then b else (if q then a else min a b)) ≤ 5
worse_by a b true q h k = k
worse_by a b false true h k = h
worse_by a b false false h k = omega arith

worse_small : (a b : ℕ) → a ≤ 5 → b ≤ 5 → worse a b ≤ 5
worse_small a b h k = worse_by a b (a == 0) (b == 0) h k

fold_small : (status : ℕ) (rows : List Row) → status ≤ 5 → fold (λ status row. worse status (kind_status row.kind)) status rows ≤ 5
fold_small status [] h = h
fold_small status (row ∷ rows) h = fold_small (worse status (kind_status row.kind)) rows (worse_small status (kind_status row.kind) h (kind_small row.kind))

pub status_small : (rows : List Row) → table_status rows ≤ 5
status_small rows = fold_small 0 rows (omega arith)
