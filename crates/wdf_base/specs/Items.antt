-- Lists that are read by number.
use Rattle.std.specs.Prelude.{ℕ, List, slice_set}
use Rattle.std.specs.Borrow.{Lends, Fml, RattleType, MutBor}
use Rattle.wdf_base.specs.contracts.items.Items.{the_row}

-- once the borrow r ends, the list has at k the last value written through r
abbrev pub lends_item : (T C : RattleType) → MutBor (List T.Denot) → ℕ → MutBor T.Denot → Fml
lends_item T C items k r = Lends (the_row T C) T items r (slice_set items.now k)
