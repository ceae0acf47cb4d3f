-- The run that was made has ended, and its trace was said.
use Rattle.std.proofs.Common.{inr, refl}
use Rattle.wdf_output.specs.Refusals.{no_memory_line}
use Rattle.wdf_top.specs.Answers.{By}
use Rattle.wdf_top.proofs.Due.{trace_told}
use Rattle.wdf_run.proofs.Endings.{has_ended}
use Rattle.wdf_top.proofs.run.tell_run.Goals as goal

pub write_run-requires : goal.write_run-requires
write_run-requires g c = rw c.in-Ok.ensures.plan (has_ended c.args.plan g.A.Agent.meaning c.in-Ok.core.journal c.in-Ok.ensures.picked.ends)

pub returns-in-Ok-clause-told : goal.returns-in-Ok-clause-told
returns-in-Ok-clause-told g c = trace_told c.args.plan g.A.Agent.meaning (By c.args.picks) _ c.in-Ok.core.journal _ _ c.in-Ok.ensures.plan c.in-Ok.ensures.picked c.write_run.ensures.said

pub returns-in-Err-clause-told : goal.returns-in-Err-clause-told
returns-in-Err-clause-told g c = (no_memory_line, 15, inr (refl, refl), rw c.from.ensures at c.tell.ensures.said)
