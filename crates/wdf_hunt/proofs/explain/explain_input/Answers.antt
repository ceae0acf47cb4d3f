-- What is told of the input's two parts.
use Rattle.std.proofs.Common.{arith}
use Rattle.std.proofs.lemmas.List.{length-take-le}
use Rattle.wdf_split.specs.Inputs.{scenario_in}
use Rattle.wdf_top.proofs.Due.{cause_of_text, refusal_told}
use Rattle.wdf_top.proofs.Resolving.{text_plan_resolved}
use Rattle.wdf_hunt.specs.Explained.{explaining}
use Rattle.wdf_hunt.proofs.Explained.{explained_told}
use Rattle.wdf_hunt.proofs.explain.explain_input.Goals as goal

pub plan_of_text-requires : goal.plan_of_text-requires
plan_of_text-requires g c =
    omega (arith, length-take-le c.split-parts.result.scenario c.args.input.now c.split-parts.ensures.scenario_within, c.split-parts.ensures.scenario_within, c.requires)

pub tell_plan-requires : goal.tell_plan-requires
tell_plan-requires g c = text_plan_resolved _ c.in-Ok.plan c.in-Ok.ensures.plan

pub returns-in-Ok : goal.returns-in-Ok
returns-in-Ok g c = record {
  told = λ s is_read. explained_told s _ c.in-Ok.plan _ c.args.input.now (rw c.split-parts.ensures.scenario at c.in-Ok.ensures.plan) (rw c.split-parts.ensures.trace at (rw c.from_place.ensures at c.tell_plan.ensures.told)) is_read;
  not_again = c.tell_plan.ensures.not_again;
}

pub returns-in-Err : goal.returns-in-Err
returns-in-Err g c = record {
  told = λ s is_read. refusal_told explaining s _ c.in-Err.refusal _ (cause_of_text scenario_in s c.args.input.now c.in-Err.refusal is_read (rw c.split-parts.ensures.scenario at c.in-Err.ensures.cause)) c.tell.ensures.said;
  not_again = c.tell.ensures.not_again;
}
