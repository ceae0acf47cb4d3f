-- A timeout above the longest, computed.
use Rattle.std.proofs.Common.{refl}
use Rattle.law_idle_worked.specs.Longest.{IsLongest}

pub longest : IsLongest
longest = record { ahead = refl; before = refl; then = refl }
