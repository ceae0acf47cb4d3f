-- A row of a table: what is known of the seeds whose runs end in one kind. (own)
use Rattle.std.specs.Prelude.{if◌then◌else◌, ℕ, ◌+◌, ◌==◌, ◌&&◌, ◌||◌, Bool, List, bytes_eq, nat_lt, nat_le}
use Rattle.std.specs.declared.cmp.Ordering.{Ordering}
use Rattle.std.specs.Ordering.{nat_cmp, ordering_then}
use Rattle.std.specs.Cmp.Lexicographic.{slice_cmp}
use Rattle.wdf_table.specs.declared.row.Row.{Row}

-- a row is of this kind
abbrev pub is_of : List ℕ → Row → Bool
is_of kind row = bytes_eq row.kind kind

-- One row's run is as plain as the other's: it has fewer events, or as many and no greater seed.
abbrev pub is_as_plain : Row → Row → Bool
is_as_plain a b = nat_lt a.events b.events || (a.events == b.events && nat_le a.seed b.seed)

-- two rows of one kind as one: the seeds of both, with the plainer of the two runs
abbrev pub joined_rows : Row → Row → Row
joined_rows a b = record {
  kind = a.kind;
  count = a.count + b.count;
  seed = if is_as_plain a b then a.seed else b.seed;
  events = if is_as_plain a b then a.events else b.events;
}

-- The order of rows in a table: most seeds first, and of as many by kind, byte by byte.
abbrev pub row_cmp : Row → Row → Ordering
row_cmp a b = ordering_then (nat_cmp b.count a.count) (slice_cmp nat_cmp a.kind b.kind)
