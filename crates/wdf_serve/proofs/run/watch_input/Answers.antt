-- What `watch` says, of a plan and of a refusal.
use Rattle.wdf_dev.specs.Agents.{agent_meaning}
use Rattle.wdf_serve.proofs.run.watch_input.Goals as goal
use Rattle.wdf_top.specs.Answers.{Freely, running}
use Rattle.wdf_top.proofs.Due.{refusal_told, run_told}
use Rattle.wdf_top.proofs.Resolving.{text_plan_resolved}

pub tell_watched-requires-clause-resolved : goal.tell_watched-requires-clause-resolved
tell_watched-requires-clause-resolved g c ks ls = text_plan_resolved c.in-Ok.ensures.plan.0 c.in-Ok.plan c.in-Ok.ensures.plan.2

pub returns-in-Ok : goal.returns-in-Ok
returns-in-Ok g c = record {
  told = run_told agent_meaning Freely _ _ c.in-Ok.plan _ c.in-Ok.ensures.plan c.tell_watched.ensures.told;
  not_again = c.tell_watched.ensures.not_again;
}

pub returns-in-Err : goal.returns-in-Err
returns-in-Err g c = record {
  told = refusal_told (running agent_meaning Freely) _ _ c.in-Err.refusal _ c.in-Err.ensures.cause c.tell.ensures.said;
  not_again = c.tell.ensures.not_again;
}
