-- The frame that goes on is the top one, and the first part is that of its call.
use Rattle.std.proofs.Common.{◌≡◌, ◌∷◌, ◌++◌, [], Some, option_map, ap, sym, ◌∙◌}
use Rattle.wdf_base.specs.declared.frame.Frame.{Frame}
use Rattle.wdf_base.specs.declared.ids.FrameId.{FrameId}
use Rattle.wdf_model.specs.Ids.{frame_id}
use Rattle.wdf_model.specs.declared.deed.Deed.TheVariants.{GoOn}
use Rattle.wdf_model.specs.parts.Cpus.{Cpus, frame_of, top}
use Rattle.wdf_model.specs.rules.Calls.{outcome, second_deeds}
use Rattle.wdf_model.specs.rules.Deeds.{do_deeds}
use Rattle.wdf_model.specs.rules.Steps.{answered, did_deeds}
use Rattle.wdf_steps.proofs.Tops.{on_top}
use Rattle.wdf_steps.proofs.taking.answer.Goals as goal

pub returns : goal.returns
returns g c =
    let plan = c.args.plan.now in
    let S = c.args.parts.now in
    let call = c.args.call.now in
    let f = c.in-Some.number.0 in
    let is : top S.cpus c.args.cpu.0 ≡ Some f = sym (ap (λ (C : Cpus). top C c.args.cpu.0) c.cpus.ensures) ∙ sym c.top.ensures ∙ ap (option_map (λ (x : FrameId). x.0)) c.in-Some.is in
    let after : c.of-after.result ≡ answered plan (frame_of S.cpus f) c.args.value
    = c.of-after.ensures ∙ c.answered.ensures ∙ ap (λ (F : Frame). answered plan F c.args.value) (c.frame-frame.ensures ∙ ap (λ (C : Cpus). frame_of C f) c.cpus-2.ensures) in
    on_top plan S c.do_both.new.parts c.args.cpu.0 f (did_deeds plan S c.args.cpu.0 call c.args.value) is
    (c.do_both.ensures
    ∙ ap (λ ds. do_deeds plan (ds ++ second_deeds f call ++ GoOn (frame_id f) c.of-after.result ∷ []) S) c.outcome-outcome.ensures.deeds
    ∙ ap (λ (F : Frame). do_deeds plan ((outcome plan S c.args.cpu.0 f call).deeds ++ second_deeds f call ++ GoOn (frame_id f) F ∷ []) S) after)
