-- What is of the sort, at the places of the device.
use Rattle.std.proofs.Common.{◌∙◌, ap}
use Rattle.wdf_plan_index.specs.Belongings.{ids_at}
use Rattle.wdf_plan_index.proofs.Walking.{ids_are}
use Rattle.wdf_plan_index.proofs.belongings.belongings_of.Goals as goal

pub returns : goal.returns
returns c = ap (ids_at c.args.sort c.args.plan.now c.args.device.0) c.of.ensures ∙ ids_are c.args.sort c.args.plan.now c.args.device.0 c.args.over.now c.requires
