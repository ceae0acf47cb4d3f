use Rattle.wdf_blocks.specs.Placed.{counted}
use Rattle.wdf_blocks.proofs.placed.counted.Goals as goal

pub returns : goal.returns
unfolding counted
returns c = cc
