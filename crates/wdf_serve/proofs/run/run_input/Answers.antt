-- What `run` says, of a plan and of a refusal.
use Rattle.wdf_base.specs.Resolved.{IsResolved}
use Rattle.wdf_dev.specs.Agents.{agent_meaning}
use Rattle.wdf_serve.proofs.run.run_input.Goals as goal
use Rattle.wdf_top.specs.Answers.{Freely, running}
use Rattle.wdf_top.proofs.Due.{refusal_told, run_told}
use Rattle.wdf_top.proofs.Resolving.{text_plan_resolved}

pub tell_some_run-requires : goal.tell_some_run-requires
tell_some_run-requires g c =
    let resolved : IsResolved c.in-Ok.plan = text_plan_resolved c.in-Ok.ensures.plan.0 c.in-Ok.plan c.in-Ok.ensures.plan.2 in
    search

pub returns-in-Ok : goal.returns-in-Ok
returns-in-Ok g c = record {
  told = run_told agent_meaning Freely _ _ c.in-Ok.plan _ c.in-Ok.ensures.plan c.tell_some_run.ensures.told;
  not_again = c.tell_some_run.ensures.not_again;
}

pub returns-in-Err : goal.returns-in-Err
returns-in-Err g c = record {
  told = refusal_told (running agent_meaning Freely) _ _ c.in-Err.refusal _ c.in-Err.ensures.cause c.tell.ensures.said;
  not_again = c.tell.ensures.not_again;
}
