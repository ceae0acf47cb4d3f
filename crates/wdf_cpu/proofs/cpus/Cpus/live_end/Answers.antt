-- No frame that runs or is parked has a greater number.
use Rattle.std.proofs.Common.{arith}
use Rattle.wdf_cpu.specs.Kept.{cpus_in}
use Rattle.wdf_cpu.proofs.Leasts.{live_numbers}
use Rattle.wdf_cpu.proofs.cpus.Cpus.live_end.Goals as goal

pub returns : goal.returns
returns c = rw (← c.self.view_is) (live_numbers (cpus_in c.self.inside) c.self.inside.live.items c.min.result c.self.invariant.kept.live (omega arith))
