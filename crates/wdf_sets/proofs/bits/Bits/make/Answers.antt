use Rattle.std.proofs.Common.{ap, ◌∙◌}
use Rattle.wdf_sets.specs.Words.{bits_of}
use Rattle.wdf_sets.proofs.Ones.{bits_of_zeros}
use Rattle.wdf_sets.proofs.bits.Bits.make.Goals as goal

pub returns : goal.returns
returns c = ap bits_of c.in_ok-make.ensures ∙ bits_of_zeros c.args.words
