-- What becomes of the input that was read, or why none was.
use Rattle.wdf_view.proofs.Shown.{cause_from, read_cause, shown_from}
use Rattle.wdf_view.proofs.top.draw_source.Goals as goal

pub returns-in-Ok : goal.returns-in-Ok
returns-in-Ok g c = record {
  formed = c.draw_input.ensures.formed;
  shown = shown_from _ c.deref.result.now _ (rw c.deref.ensures.value c.in-Ok.ensures.text) c.draw_input.ensures.shown;
  cause = cause_from _ c.deref.result.now _ (rw c.deref.ensures.value c.in-Ok.ensures.text) c.draw_input.ensures.cause;
}

pub returns-in-Err : goal.returns-in-Err
returns-in-Err g c = record { formed = tt; shown = tt; cause = read_cause _ c.in-Err.refusal c.in-Err.ensures.cause }
