-- Which request a queue may present next, by what it has presented.
use Rattle.std.specs.Prelude.{if◌then◌else◌, ℕ, Bool, not, ◌==◌, ◌&&◌, ◌||◌, nat_lt, nat_le, List}
use Rattle.std.specs.List.{list_any}
use Rattle.wdf_base.specs.declared.event.Event.{Event}
use Rattle.check_past.specs.declared.shown.Shown.{Shown}
use Rattle.check_past.specs.Order.{tail_entry, tail_number, heads}

-- a request waited from its entry to its presentation: at the entry with this number too
abbrev pub covers : ℕ → Shown → Bool
covers entry s = nat_le s.entry entry && nat_lt entry s.number

-- A request whose last entry has this number, at the head or at the tail, may be presented after those before. At the
-- head: none that entered at the tail was presented since, nor one that waited at the head before it. At the tail: none
-- that entered there after it was presented.
abbrev pub is_next : List Event → ℕ → ℕ → ℕ → Bool → Bool
is_next all q k entry at_head =
    (entry == 0) || (if at_head then nat_le (tail_number all q k) entry && not (list_any (covers entry) (heads all q k)) else nat_lt (tail_entry all q k) entry)
