use Rattle.law_plan.proofs.GivenLines.{objects_given, classes_given}
use Rattle.law_plan.proofs.attributes_are_those_of_the_blocks.Goals as goal

pub returns-clause-objects : goal.returns-clause-objects
returns-clause-objects c = objects_given

pub returns-clause-classes : goal.returns-clause-classes
returns-clause-classes c = classes_given
