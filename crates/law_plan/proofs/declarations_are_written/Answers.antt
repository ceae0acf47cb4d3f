use Rattle.law_plan.proofs.ItemLines.{objects_are, classes_are, registers_are}
use Rattle.law_plan.proofs.declarations_are_written.Goals as goal

pub returns-clause-objects : goal.returns-clause-objects
returns-clause-objects c = λ scene e. objects_are scene e

pub returns-clause-classes : goal.returns-clause-classes
returns-clause-classes c = λ scene e. classes_are scene e

pub returns-clause-registers : goal.returns-clause-registers
returns-clause-registers c = λ scene e. registers_are scene e
