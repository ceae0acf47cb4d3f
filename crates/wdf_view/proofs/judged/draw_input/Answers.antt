-- What becomes of the input's two parts.
use Rattle.wdf_view.proofs.Shown.{cause_of, shown_of, text_input, text_plan_resolved}
use Rattle.wdf_view.proofs.judged.draw_input.Goals as goal

pub draw_trace-requires : goal.draw_trace-requires
draw_trace-requires c = text_plan_resolved _ c.in-Ok.plan c.in-Ok.ensures.plan

pub returns-in-Ok : goal.returns-in-Ok
returns-in-Ok c =
    let has = rw c.split-parts.ensures.scenario at c.in-Ok.ensures.plan in
    record {
      formed = c.draw_trace.ensures.formed;
      shown = shown_of c.args.input.now c.in-Ok.plan _ has (rw c.split-parts.ensures.trace at (rw c.from_place.ensures at c.draw_trace.ensures.accepted));
      cause = cause_of c.args.input.now c.in-Ok.plan _ has (rw c.split-parts.ensures.trace at (rw c.from_place.ensures at c.draw_trace.ensures.refused));
    }

pub returns-in-Err : goal.returns-in-Err
returns-in-Err c = record {
  formed = tt;
  shown = tt;
  cause = text_input c.args.input.now c.in-Err.refusal (rw c.split-parts.ensures.scenario at c.in-Err.ensures.cause);
}
