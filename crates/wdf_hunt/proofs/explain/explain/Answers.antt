-- What `explain` says, of an input and of a refusal.
use Rattle.wdf_split.specs.Inputs.{scenario_in}
use Rattle.wdf_top.proofs.Due.{refusal_told}
use Rattle.wdf_hunt.specs.Explained.{explaining}
use Rattle.wdf_hunt.proofs.Explained.{cause_unread}
use Rattle.wdf_hunt.proofs.explain.explain.Goals as goal

pub explain_input-requires : goal.explain_input-requires
explain_input-requires g c = rw c.deref.ensures.value c.in-Ok.ensures.text.1

pub returns-in-Ok : goal.returns-in-Ok
returns-in-Ok g c = record {
  told = c.explain_input.ensures.told _ (rw c.deref.ensures.value c.in-Ok.ensures.text);
  not_again = c.explain_input.ensures.not_again;
}

pub returns-in-Err : goal.returns-in-Err
returns-in-Err g c = record {
  told = refusal_told explaining _ _ c.in-Err.refusal _ (cause_unread scenario_in _ c.in-Err.refusal c.in-Err.ensures.cause) c.tell.ensures.said;
  not_again = c.tell.ensures.not_again;
}
