-- The change leaves the rest.
use Rattle.wdf_steps.proofs.Places.{placed_is}
use Rattle.wdf_steps.proofs.frames.placed.Goals as goal

pub returns : goal.returns
returns c = placed_is c.args.frame.now c.args.change c.args.at
