use Rattle.std.proofs.Common.{◌*◌}
use Rattle.wdf_sets.specs.Nexts.{NoneFrom}
use Rattle.wdf_sets.proofs.Noted.{in_set}
use Rattle.wdf_sets.proofs.bits.Bits.first_from.Given as goal

abbrev pub invariant-search : goal.invariant-search
invariant-search l = NoneFrom (in_set l.self) l.id (64 * l.word)
