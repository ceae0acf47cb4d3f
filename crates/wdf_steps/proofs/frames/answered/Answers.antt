-- The variable has the answer, and the frame is at the next statement.
use Rattle.std.proofs.Common.{◌≡◌, ℕ, Option, None, ap, ◌∙◌}
use Rattle.wdf_base.specs.declared.frame.Frame.{Frame}
use Rattle.wdf_base.specs.declared.script.Statement.{Statement}
use Rattle.wdf_model.specs.rules.Script.{statement_at}
use Rattle.wdf_model.specs.rules.Steps.{at_next, result_of, with_answer}
use Rattle.wdf_steps.proofs.Places.{answer_placed}
use Rattle.wdf_steps.proofs.frames.answered.Goals as goal

pub returns : goal.returns
returns c =
    let frame = c.args.frame.now in
    let at = c.next_place.result in
    let value = c.args.value in
    let is : c.statement_at-statement.result ≡ statement_at c.args.plan.now frame = rw c.plan.ensures at c.statement_at-statement.ensures in
    ap (λ (F : Frame). record F { at = at; until = frame.until; pending = None }) (c.answer_of.ensures frame)
    ∙ answer_placed frame at c.result_of.result value
    ∙ ap (λ (F : Frame). record (with_answer F c.result_of.result value) { pending = None }) c.next_place.ensures
    ∙ ap (λ (v : Option ℕ). record (with_answer (at_next frame c.statement_at-statement.result) v value) { pending = None }) c.result_of.ensures
    ∙ ap (λ (s : Option Statement). record (with_answer (at_next frame s) (result_of s) value) { pending = None }) is
