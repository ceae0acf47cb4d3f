-- What a run says, of a plan and of a refusal.
use Rattle.wdf_top.specs.Answers.{By, running}
use Rattle.wdf_top.proofs.Due.{run_told, refusal_told}
use Rattle.wdf_top.proofs.Resolving.{text_plan_resolved}
use Rattle.wdf_top.proofs.top.run.Goals as goal

pub tell_run-requires : goal.tell_run-requires
tell_run-requires g c = text_plan_resolved c.in-Ok.ensures.plan.0 c.in-Ok.plan c.in-Ok.ensures.plan.2

pub returns-in-Ok : goal.returns-in-Ok
returns-in-Ok g c = record {
  told = run_told g.A.Agent.meaning (By c.args.picks) _ _ c.in-Ok.plan _ c.in-Ok.ensures.plan c.tell_run.ensures.told;
  not_again = c.tell_run.ensures.not_again;
}

pub returns-in-Err : goal.returns-in-Err
returns-in-Err g c = record {
  told = refusal_told (running g.A.Agent.meaning (By c.args.picks)) _ _ c.in-Err.refusal _ c.in-Err.ensures.cause c.tell.ensures.said;
  not_again = c.tell.ensures.not_again;
}
