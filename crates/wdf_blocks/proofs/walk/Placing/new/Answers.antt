use Rattle.std.proofs.Common.{refl}
use Rattle.wdf_blocks.specs.Placed.{placed}
use Rattle.wdf_blocks.proofs.walk.Placing.new.Goals as goal

pub returns : goal.returns
unfolding placed
returns c = rw (c.outside.ensures, c.nothing.ensures) refl
