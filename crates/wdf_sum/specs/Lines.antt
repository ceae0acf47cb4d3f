-- The lines of tables as they are read: rows, and the last line of each table. (own)
use Rattle.std.specs.Prelude.{ℕ, ◌≡◌, ◌+◌, ◌<◌, ◌≤◌, ◌^◌, Bool, false, not, List, [], ◌∷◌, ◌++◌, codes, decimal, sum_by}
use Rattle.std.specs.Char.{is_ascii_digit}
use Rattle.wdf_table.specs.declared.row.Row.{Row}
use Rattle.wdf_table.specs.Lines.{row_text, total_text}
use Rattle.wdf_sum.specs.declared.line.Seeds.{Seeds}
use Rattle.wdf_sum.specs.declared.line.TableLine.{TableLine}
use Rattle.wdf_sum.specs.declared.line.TableLine.TheVariants.{OfKind, Last}

-- a text that can't go on a number: its first byte is no digit
abbrev pub ends_digits : List ℕ → Bool
ends_digits [] = false
ends_digits (b ∷ bytes) = not (is_ascii_digit b)

-- A row as a table has it: it counts a seed at least, and its numbers have 64 bits.
pub record IsTableRow (row : Row) : Type 0 where
  pub some : 0 < row.count
  pub count_fits : row.count < 2 ^ 64
  pub seed_fits : row.seed < 2 ^ 64
  pub events_fit : row.events < 2 ^ 64

-- What the last line of a table says: one seed at least, and none of them past the last seed.
pub record IsTableEnd (s : Seeds) : Type 0 where
  pub some : 0 < s.count
  pub fits : s.from + s.count ≤ 2 ^ 64

-- the same in numbers of 64 bits
pub record IsSmallEnd (s : Seeds) : Type 0 where
  pub proper : IsTableEnd s
  pub count_fits : s.count < 2 ^ 64
  pub events_fit : s.events < 2 ^ 64

-- a line that a table may have
abbrev pub IsTableLine : TableLine → Type 0
IsTableLine (OfKind row) = IsTableRow row
IsTableLine (Last s) = IsSmallEnd s

-- The text of a line of a table, with its line feed.
abbrev pub line_text : TableLine → List ℕ
line_text (OfKind row) = row_text row
line_text (Last s) = total_text s.from s.count s.events

-- a line of a table that was read from this text, as the line with this number
abbrev pub IsLineOf : List ℕ → ℕ → TableLine → Type 0
IsLineOf text number (OfKind row) = row_text row ≡ text
IsLineOf text number (Last s) = IsTableEnd s × (total_text s.from s.count s.events ≡ text) × (s.line ≡ number)

-- the line of a row, without its line feed, as it is read
abbrev pub row_words : ℕ → ℕ → ℕ → List ℕ → List ℕ
row_words count seed events kind =
    decimal count ++ (codes " seeds, seed " ++ (decimal seed ++ (codes " in " ++ (decimal events ++ (codes " events: " ++ kind)))))

-- the last line of a table, without its line feed, as it is read, with what comes after it
abbrev pub end_words : ℕ → ℕ → ℕ → ℕ → List ℕ → List ℕ
end_words from to count events rest =
    codes "seeds " ++ (decimal from ++ (codes " to " ++ (decimal to ++ (codes ": " ++ (decimal count ++ (codes " runs, " ++ (decimal events ++ (codes " events" ++ rest))))))))

-- ---- what lines have

-- the row of a line, if it is one
abbrev pub row_of : TableLine → List Row
row_of (OfKind row) = row ∷ []
row_of (Last s) = []

-- what a line says of seeds, if it is the last of a table
abbrev pub end_of : TableLine → List Seeds
end_of (OfKind row) = []
end_of (Last s) = s ∷ []

-- the rows among lines, in their order
abbrev pub rows_in : List TableLine → List Row
rows_in [] = []
rows_in (l ∷ ls) = row_of l ++ rows_in ls

-- what the last lines of tables say, in their order
abbrev pub ends_in : List TableLine → List Seeds
ends_in [] = []
ends_in (l ∷ ls) = end_of l ++ ends_in ls

-- how many seeds tables have by their last lines, and how many events
abbrev pub count_of : List Seeds → ℕ
count_of ends = sum_by (λ s. s.count) ends

abbrev pub events_of : List Seeds → ℕ
events_of ends = sum_by (λ s. s.events) ends
