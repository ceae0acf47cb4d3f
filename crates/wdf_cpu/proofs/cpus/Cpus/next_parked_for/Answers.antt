-- The ids that are counted are those of parked frames.
use Rattle.wdf_cpu.specs.Kept.{cpus_in}
use Rattle.wdf_cpu.proofs.Nexts.{next_parked_for_is}
use Rattle.wdf_cpu.proofs.cpus.Cpus.next_parked_for.Goals as goal

pub returns : goal.returns
returns c = rw (← c.self.view_is) (next_parked_for_is (cpus_in c.self.inside) c.self.inside.parked_for c.args.from.0 c.next.result c.self.invariant.parked_for c.next.ensures)
