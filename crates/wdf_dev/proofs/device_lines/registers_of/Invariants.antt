-- The registers so far are those with the first numbers.
use Rattle.std.proofs.Common.{◌≡◌, map, take}
use Rattle.wdf_model.specs.agents.Device.{register_of}
use Rattle.wdf_dev.proofs.device_lines.registers_of.Given as goal

abbrev pub invariant-loop-k : goal.invariant-loop-k
invariant-loop-k l = l.registers.items ≡ map (register_of l.device.0) (take l.k l.plan.registers)
