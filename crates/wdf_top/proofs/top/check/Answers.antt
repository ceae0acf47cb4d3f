-- What `check` says, of a scene and of a refusal.
use Rattle.std.proofs.Common.{arith}
use Rattle.wdf_top.specs.Answers.{checking}
use Rattle.wdf_top.proofs.Due.{check_told, refusal_told}
use Rattle.wdf_top.proofs.top.check.Goals as goal

pub returns-in-Ok : goal.returns-in-Ok
returns-in-Ok g c = record {
  told = check_told _ _ _ _ c.in-Ok.ensures.text (rw c.deref.ensures.value at c.say.ensures.said);
  not_again = c.say.ensures.not_again (λ h. omega (arith, h));
}

pub returns-in-Err : goal.returns-in-Err
returns-in-Err g c = record {
  told = refusal_told checking _ _ c.in-Err.refusal _ c.in-Err.ensures.cause c.tell.ensures.said;
  not_again = c.tell.ensures.not_again;
}
