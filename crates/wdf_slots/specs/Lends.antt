-- What slots end as, where a `&mut` to an entry is handed out.
use Rattle.std.specs.Prelude.{ℕ, List, slice_set}
use Rattle.std.specs.Borrow.{Lends, Fml, RattleType, MutBor}
use Rattle.wdf_slots.specs.declared.by_id.ById.{Ghosts}
use Rattle.wdf_slots.specs.contracts.slots.Slots.{the_row}

module _ (T : RattleType) (by_id : Ghosts T.Denot) where
  -- the entries end as they were, but for that of the id: it is the last value that is written through the borrow
  abbrev pub lends_entry : MutBor (List T.Denot) → ℕ → MutBor T.Denot → Fml
  lends_entry s id r = Lends (the_row T by_id) T s r (slice_set s.now id)
