-- The sum of tables: what it is, and when and why there is none. (own)
use Rattle.std.specs.Prelude.{ℕ, ◌≡◌, ◌≢◌, ◌⊎◌, ◌+◌, ◌<◌, ◌≤◌, ◌^◌, List, [], ◌∷◌, ◌++◌, length, map, take, Some, slice_get}
use Rattle.std.specs.List.{All}
use Rattle.std.specs.List.Sorted.{IsPermutation, IsSorted}
use Rattle.std.specs.declared.cmp.Ordering.{Ordering}
use Rattle.std.specs.Ordering.{nat_cmp, ordering_then}
use Rattle.wdf_run_text.specs.Lines.{trace_lines}
use Rattle.wdf_table.specs.declared.row.Row.{Row}
use Rattle.wdf_table.specs.Tables.{IsTallyOf, all_seeds}
use Rattle.wdf_sum.specs.declared.line.Seeds.{Seeds}
use Rattle.wdf_sum.specs.declared.line.TableLine.{TableLine}
use Rattle.wdf_sum.specs.declared.line.TableLine.TheVariants.{OfKind, Last}
use Rattle.wdf_sum.specs.declared.refused.Why.{Why}
use Rattle.wdf_sum.specs.declared.refused.Why.TheVariants as why
use Rattle.wdf_sum.specs.declared.refused.Bad.{Bad}
use Rattle.wdf_sum.specs.declared.refused.Bad.TheVariants.{NoMemory, AtLine}
use Rattle.wdf_sum.specs.declared.tables.Tables.{Tables}
use Rattle.wdf_sum.specs.declared.sum.Sum.{Sum}
use Rattle.wdf_sum.specs.Lines.{IsTableEnd, IsTableLine, line_text, rows_in, ends_in, count_of, events_of}

-- ---- what lines come to

-- What these lines of tables come to: their rows, what their last lines say, and how many seeds and events these have. Where a
-- table ends, the rows so far count as many seeds as the last lines say.
pub record IsReadAs (lines : List TableLine) (tables : Tables) : Type 0 where
  pub tally : IsTallyOf (rows_in lines) tables.tally
  pub ends : tables.ends.items ≡ ends_in lines
  pub proper : All IsTableEnd (ends_in lines)
  pub seeds : tables.seeds ≡ all_seeds (rows_in lines)
  pub count : tables.count ≡ count_of (ends_in lines)
  pub events : tables.events ≡ events_of (ends_in lines)
  pub not_more : tables.count ≤ tables.seeds

-- ---- bad lines

-- with this line there are more seeds or more events than a number of 64 bits says
abbrev pub AreTooMany : List TableLine → TableLine → Type 0
AreTooMany lines (OfKind row) = 2 ^ 64 ≤ all_seeds (rows_in lines) + row.count
AreTooMany lines (Last s) = 2 ^ 64 ≤ events_of (ends_in lines) + s.events

-- Why a line is bad after these lines, a row for each reason that a line has.
abbrev pub IsBadLine : List TableLine → List ℕ → Why → Type 0
-- it is no line of a table
IsBadLine lines line why.NotALine = (l : TableLine) → IsTableLine l → line_text l ≢ line
-- the rows of its table count another number of seeds than it says
IsBadLine lines line why.WrongCount = (s : Seeds) × (line_text (Last s) ≡ line) × (all_seeds (rows_in lines) ≢ count_of (ends_in lines) + s.count)
-- numbers pass 64 bits
IsBadLine lines line why.TooMany = (l : TableLine) × (line_text l ≡ line) × AreTooMany lines l
-- the other reasons are no line's
IsBadLine lines line _ = ⊥

-- why the next line, with this number, isn't taken; memory may be refused at any time
abbrev pub IsBadNext : List TableLine → List ℕ → ℕ → Bad → Type 0
IsBadNext lines line number NoMemory = Unit
IsBadNext lines line number (AtLine n reason) = (n ≡ number) × IsBadLine lines line reason

-- the same of a row, beside what the lines before it come to
abbrev pub IsBadRow : Tables → Row → ℕ → Bad → Type 0
IsBadRow tables row number NoMemory = Unit
IsBadRow tables row number (AtLine n why.TooMany) = (n ≡ number) × (2 ^ 64 ≤ tables.seeds + row.count)
IsBadRow tables row number (AtLine n _) = ⊥

-- the same of the last line of a table
abbrev pub IsBadEnd : Tables → Seeds → Bad → Type 0
IsBadEnd tables s NoMemory = Unit
IsBadEnd tables s (AtLine n why.WrongCount) = (n ≡ s.line) × (tables.seeds ≢ tables.count + s.count)
IsBadEnd tables s (AtLine n why.TooMany) = (n ≡ s.line) × (2 ^ 64 ≤ tables.events + s.events)
IsBadEnd tables s (AtLine n _) = ⊥

-- The line with this number, counted from 1, is the first bad one of an input.
pub record IsBadAt (input : List ℕ) (number : ℕ) (reason : Why) : Type 0 where
  pub lines : List TableLine
  pub line : List ℕ
  pub after : List (List ℕ)
  pub there : trace_lines input ≡ map line_text lines ++ line ∷ after
  pub number_is : number ≡ length lines + 1
  pub bad : IsBadLine lines line reason

-- the input stops in a table, or has none: the line is the one that would come next
pub record StopsAt (input : List ℕ) (number : ℕ) : Type 0 where
  pub lines : List TableLine
  pub are : trace_lines input ≡ map line_text lines
  pub number_is : number ≡ length lines + 1
  pub unclosed : (ends_in lines ≡ []) ⊎ (all_seeds (rows_in lines) ≢ count_of (ends_in lines))

-- the whole input is lines of tables, which come to this, and the line after them has this number
abbrev pub IsReadWhole : List ℕ → Tables → ℕ → Type 0
IsReadWhole input tables number =
    (lines : List TableLine) × (trace_lines input ≡ map line_text lines) × (number ≡ length lines + 1) × IsReadAs lines tables

-- ---- ranges

-- the order of ranges: by the first seed, and of as early ones by their lines
abbrev pub seeds_cmp : Seeds → Seeds → Ordering
seeds_cmp a b = ordering_then (nat_cmp a.from b.from) (nat_cmp a.line b.line)

-- Each of these ranges begins where those before it end, and the first of them here.
abbrev pub Follow : ℕ → List Seeds → Type 0
Follow from ordered = (k : ℕ) (s : Seeds) → slice_get ordered k ≡ Some s → s.from ≡ from + count_of (take k ordered)

-- The ranges are one range from here on, in some order.
pub record AreJoined (from : ℕ) (ends : List Seeds) : Type 0 where
  pub ordered : List Seeds
  pub moved : IsPermutation ends ordered
  pub follow : Follow from ordered

-- a range begins before those before it end, or after
abbrev pub IsApart : ℕ → Seeds → Why → Type 0
IsApart end s why.CountedTwice = s.from < end
IsApart end s why.Gap = end < s.from
IsApart end s _ = ⊥

-- One of these ranges, in its line, begins before those before it end, or after; the first of them begins here.
pub record HasBreak (from : ℕ) (ordered : List Seeds) (number : ℕ) (reason : Why) : Type 0 where
  pub k : ℕ
  pub apart : Seeds
  pub there : slice_get ordered k ≡ Some apart
  pub number_is : number ≡ apart.line
  pub reason_is : IsApart (from + count_of (take k ordered)) apart reason

-- why ranges in their order aren't one range from here on; memory isn't it
abbrev pub IsBreak : ℕ → List Seeds → Bad → Type 0
IsBreak from ordered NoMemory = ⊥
IsBreak from ordered (AtLine number reason) = HasBreak from ordered number reason

-- The ranges are no one range: in their order there is a break.
pub record AreApart (ends : List Seeds) (number : ℕ) (reason : Why) : Type 0 where
  pub ordered : List Seeds
  pub moved : IsPermutation ends ordered
  pub sorted : IsSorted seeds_cmp ordered
  pub first : Seeds
  pub first_is : slice_get ordered 0 ≡ Some first
  pub broken : HasBreak first.from ordered number reason

-- why ranges are no one range
abbrev pub AreNoRange : List Seeds → Bad → Type 0
AreNoRange ends NoMemory = ⊥
AreNoRange ends (AtLine number reason) = AreApart ends number reason

-- the same of ranges in their order
abbrev pub IsNoRangeFrom : List Seeds → Bad → Type 0
IsNoRangeFrom ordered bad = (first : Seeds) × (slice_get ordered 0 ≡ Some first) × IsBreak first.from ordered bad

-- the ranges of an input's tables are no one range
pub record HasApart (input : List ℕ) (number : ℕ) (reason : Why) : Type 0 where
  pub lines : List TableLine
  pub are : trace_lines input ≡ map line_text lines
  pub apart : AreApart (ends_in lines) number reason

-- ---- the sum

-- The sum of the tables in an input: their rows by kind, the one range of their seeds, and how many events these have.
pub record IsSumOf (input : List ℕ) (sum : Sum) : Type 0 where
  pub lines : List TableLine
  pub are : trace_lines input ≡ map line_text lines
  pub tally : IsTallyOf (rows_in lines) sum.tally
  pub joined : AreJoined sum.from (ends_in lines)
  pub counted : sum.count ≡ all_seeds (rows_in lines)
  pub count_is : sum.count ≡ count_of (ends_in lines)
  pub events_is : sum.events ≡ events_of (ends_in lines)

-- why the line with this number is refused, a row for each reason
abbrev pub IsRefusedAt : List ℕ → ℕ → Why → Type 0
IsRefusedAt input number why.Missing = StopsAt input number
IsRefusedAt input number why.CountedTwice = HasApart input number why.CountedTwice
IsRefusedAt input number why.Gap = HasApart input number why.Gap
IsRefusedAt input number reason = IsBadAt input number reason

-- Why an input has no sum; memory may be refused at any time.
abbrev pub IsNoSum : List ℕ → Bad → Type 0
IsNoSum input NoMemory = Unit
IsNoSum input (AtLine number reason) = IsRefusedAt input number reason
