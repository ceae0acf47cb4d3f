use Rattle.law_plan.proofs.HeadLines.{heads_are}
use Rattle.law_plan.proofs.heads_are_written.Goals as goal

pub returns : goal.returns
returns c = λ scene s. heads_are scene s
