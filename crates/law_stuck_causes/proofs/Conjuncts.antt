-- Several facts together.
use Rattle.std.proofs.Common.{◌≡◌, Bool, true, ◌&&◌}
use Rattle.wdf_model.proofs.Tests.{all_four, both}

pub five : (a b c d e : Bool) → a ≡ true → b ≡ true → c ≡ true → d ≡ true → e ≡ true → (a && b && c && d && e) ≡ true
five a b c d e h k l n q = both (a && b && c && d) e (all_four a b c d h k l n) q
