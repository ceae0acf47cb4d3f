-- A value in a seat's hands, after a write through `value_mut`.
use Rattle.std.specs.Borrow.{Lends, MutBor, Fml}
use denote.RattleType.{RattleType}
use Rattle.wdf_turn.specs.declared.held.Held.{Held}
use Rattle.wdf_turn.specs.contracts.held.Held.{the_row}

-- the same with this value
abbrev pub with_value : {T : Type 0} → Held T → T → Held T
with_value held x = record held { value = x }

abbrev pub LendsValue : (R : RattleType) → MutBor (Held R.Denot) → MutBor R.Denot → Fml
LendsValue R held r = Lends (the_row R) R held r (with_value held.now)
