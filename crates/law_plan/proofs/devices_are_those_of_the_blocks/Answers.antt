use Rattle.law_plan.proofs.DeviceLines.{objects_at_home, registers_at_home}
use Rattle.law_plan.proofs.devices_are_those_of_the_blocks.Goals as goal

pub returns-clause-objects : goal.returns-clause-objects
returns-clause-objects c = λ scene s e. objects_at_home scene s e

pub returns-clause-registers : goal.returns-clause-registers
returns-clause-registers c = λ scene s e. registers_at_home scene s e
