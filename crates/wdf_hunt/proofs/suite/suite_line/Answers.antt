-- The names of a text are proper.
use Rattle.wdf_parse.proofs.ProperNames.{stands_properly}
use Rattle.wdf_hunt.proofs.suite.suite_line.Goals as goal

pub case_line-requires-clause-names : goal.case_line-requires-clause-names
case_line-requires-clause-names g c = λ lifetimes outlive. stands_properly c.args.text.now c.in-Ok.case.scene c.in-Ok.ensures.case.0.0
