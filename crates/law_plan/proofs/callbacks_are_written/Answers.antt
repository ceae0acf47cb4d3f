use Rattle.law_plan.proofs.ScriptLines.{callbacks_are}
use Rattle.law_plan.proofs.callbacks_are_written.Goals as goal

pub returns : goal.returns
returns c = λ scene s e. callbacks_are scene s e
