-- The test of two values decides whether they are one.
use Rattle.std.proofs.Common.{◌≡◌, rules}
use Rattle.std.specs.Bool.{Decides}
use Rattle.wdf_base.specs.declared.value.Value.{Value}
use Rattle.wdf_base.specs.declared.value.Value.TheVariants as value
use Rattle.wdf_base.specs.Same.{same_value}

pub value_decides : (a b : Value) → Decides (same_value a b) (a ≡ b)
value_decides (value.Num a) (value.Num b) = search rules
value_decides (value.Num a) (value.Obj b) = search rules
value_decides (value.Num a) (value.Stat b) = search rules
value_decides (value.Obj a) (value.Num b) = search rules
value_decides (value.Obj a) (value.Obj b) = search rules
value_decides (value.Obj a) (value.Stat b) = search rules
value_decides (value.Stat a) (value.Num b) = search rules
value_decides (value.Stat a) (value.Obj b) = search rules
value_decides (value.Stat a) (value.Stat b) = search rules
