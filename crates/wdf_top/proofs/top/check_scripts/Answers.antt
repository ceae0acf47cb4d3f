-- What `lint` says, of a plan and of a refusal.
use Rattle.wdf_top.specs.Answers.{linting}
use Rattle.wdf_top.proofs.Due.{lint_told, refusal_told}
use Rattle.wdf_top.proofs.top.check_scripts.Goals as goal

pub returns-in-Ok : goal.returns-in-Ok
returns-in-Ok g c = record {
  told = lint_told _ _ c.in-Ok.plan _ c.in-Ok.ensures.plan c.tell_findings.ensures.told;
  not_again = c.tell_findings.ensures.not_again;
}

pub returns-in-Err : goal.returns-in-Err
returns-in-Err g c = record {
  told = refusal_told linting _ _ c.in-Err.refusal _ c.in-Err.ensures.cause c.tell.ensures.said;
  not_again = c.tell.ensures.not_again;
}
