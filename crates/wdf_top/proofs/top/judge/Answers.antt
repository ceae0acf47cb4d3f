-- What `replay` says, of an input and of a refusal.
use Rattle.wdf_top.specs.Answers.{judging}
use Rattle.wdf_top.proofs.Due.{refusal_told}
use Rattle.wdf_top.proofs.top.judge.Goals as goal

pub judge_input-requires : goal.judge_input-requires
judge_input-requires g c = rw c.deref.ensures.value c.in-Ok.ensures.text.1

pub returns-in-Ok : goal.returns-in-Ok
returns-in-Ok g c = record {
  told = c.judge_input.ensures.told _ (rw c.deref.ensures.value c.in-Ok.ensures.text);
  not_again = c.judge_input.ensures.not_again;
}

pub returns-in-Err : goal.returns-in-Err
returns-in-Err g c = record {
  told = refusal_told judging _ _ c.in-Err.refusal _ c.in-Err.ensures.cause c.tell.ensures.said;
  not_again = c.tell.ensures.not_again;
}
