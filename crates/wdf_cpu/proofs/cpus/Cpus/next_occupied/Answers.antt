-- The ids that are counted are those objects.
use Rattle.wdf_cpu.specs.Kept.{cpus_in}
use Rattle.wdf_cpu.proofs.Nexts.{next_occupied_is}
use Rattle.wdf_cpu.proofs.cpus.Cpus.next_occupied.Goals as goal

pub returns : goal.returns
returns c = rw (← c.self.view_is) (next_occupied_is (cpus_in c.self.inside) c.self.inside.on c.args.from.0 c.next.result c.self.invariant.kept.on c.next.ensures)
