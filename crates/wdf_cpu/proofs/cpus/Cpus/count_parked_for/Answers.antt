-- The count is that of the id.
use Rattle.std.proofs.Common.{◌∙◌}
use Rattle.wdf_cpu.proofs.cpus.Cpus.count_parked_for.Goals as goal

pub returns : goal.returns
returns c = rw (← c.self.view_is) (c.of.ensures ∙ c.self.invariant.parked_for.counted c.args.o.0 c.requires)
