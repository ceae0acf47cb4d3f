-- What is left from the first place on is all.
use Rattle.wdf_plan_index.proofs.Placing.{left_is}
use Rattle.wdf_plan_index.proofs.places.Places.of.Goals as goal

pub returns : goal.returns
returns c = left_is c.args.self.now c.args.number 0 c.first.result c.first.ensures.first c.first.ensures.within
