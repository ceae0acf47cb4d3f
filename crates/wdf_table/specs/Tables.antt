-- The table of entries: a row for each kind. An entry is a row too: of one seed, or of many that were counted before. (own)
use Rattle.std.specs.Prelude.{if◌then◌else◌, ℕ, ◌≡◌, true, min, List, sum_by, count_by}
use Rattle.std.specs.List.{All, Contains}
use Rattle.std.specs.List.Sorted.{IsSorted}
use Rattle.wdf_table.specs.declared.row.Row.{Row}
use Rattle.wdf_table.specs.Rows.{is_of, is_as_plain, row_cmp}

-- how many seeds of this kind a row has
abbrev pub seeds_in : List ℕ → Row → ℕ
seeds_in kind row = if is_of kind row then row.count else 0

-- how many seeds of this kind there are
abbrev pub seeds_of : List ℕ → List Row → ℕ
seeds_of kind rows = sum_by (seeds_in kind) rows

-- how many rows of this kind there are
abbrev pub rows_of : List ℕ → List Row → ℕ
rows_of kind rows = count_by (is_of kind) rows

-- how many seeds there are of all kinds
abbrev pub all_seeds : List Row → ℕ
all_seeds rows = sum_by (λ row. row.count) rows

-- the seed that a row names, and how many events its run has, are those of an entry of its kind
abbrev pub IsNamedBy : Row → Row → Type 0
IsNamedBy row entry = (entry.kind ≡ row.kind) × (entry.seed ≡ row.seed) × (entry.events ≡ row.events)

-- A row names the plainest of the entries of its kind: that of the fewest events, and of several such the least seed.
pub record IsBest (entries : List Row) (row : Row) : Type 0 where
  pub named : (entry : Row) × Contains entries entry × IsNamedBy row entry
  pub plainest : All (λ entry. entry.kind ≡ row.kind → is_as_plain row entry ≡ true) entries

-- The rows are those of the entries: a row for each kind that an entry is of.
pub record IsTallyOf (entries rows : List Row) : Type 0 where
  -- a kind has one row where an entry is of it, and else none
  pub one_row : (kind : List ℕ) → rows_of kind rows ≡ min 1 (rows_of kind entries)
  -- the row of a kind counts the seeds of all entries of that kind
  pub counted : (kind : List ℕ) → seeds_of kind rows ≡ seeds_of kind entries
  -- each row names the plainest run of its kind
  pub best : All (IsBest entries) rows
  -- all seeds are counted once
  pub whole : all_seeds rows ≡ all_seeds entries

-- The table of the entries: their rows in order.
pub record IsTableOf (entries rows : List Row) : Type 0 where
  pub tally : IsTallyOf entries rows
  pub ordered : IsSorted row_cmp rows
