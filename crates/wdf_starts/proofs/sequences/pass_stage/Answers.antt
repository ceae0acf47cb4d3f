-- The effect of a stage doesn't depend on the plan; it comes last.
use Rattle.std.proofs.Common.{◌≡◌, ap, ◌∙◌}
use Rattle.wdf_base.specs.declared.event.Step.TheVariants.{Pass}
use Rattle.wdf_model.specs.declared.deed.Deed.TheVariants.{AdvancePower, TakeStep}
use Rattle.wdf_model.specs.rules.Deeds.{do_deed, do_deeds}
use Rattle.wdf_model.specs.rules.Starts.{stage_effect}
use Rattle.wdf_starts.proofs.Turns.{moved}
use Rattle.wdf_starts.proofs.sequences.pass_stage.Goals as goal

pub do_if_any-requires : goal.do_if_any-requires
do_if_any-requires g c =
    let plan = c.args.plan.now in
    let advanced : c.do_deed-2.new.self ≡ do_deed plan (AdvancePower c.args.d (Pass c.args.stage c.args.interrupt)) (do_deed plan (TakeStep c.args.d) c.args.parts.now)
    = c.do_deed-2.ensures ∙ ap (do_deed plan (AdvancePower c.args.d (Pass c.args.stage c.args.interrupt))) c.do_deed.ensures in
    moved plan (stage_effect plan c.args.d.0 c.args.stage c.args.interrupt) _ _ c.do_deed-2.new.self advanced (c.stage_effect.ensures plan) c.requires.1.1

pub returns : goal.returns
returns g c =
    let plan = c.args.plan.now in
    let advanced : c.do_deed-2.new.self ≡ do_deed plan (AdvancePower c.args.d (Pass c.args.stage c.args.interrupt)) (do_deed plan (TakeStep c.args.d) c.args.parts.now)
    = c.do_deed-2.ensures ∙ ap (do_deed plan (AdvancePower c.args.d (Pass c.args.stage c.args.interrupt))) c.do_deed.ensures in
    c.do_if_any.ensures
    ∙ ap (λ ds. do_deeds plan ds c.do_deed-2.new.self) (c.stage_effect.ensures plan)
    ∙ ap (do_deeds plan (stage_effect plan c.args.d.0 c.args.stage c.args.interrupt)) advanced
