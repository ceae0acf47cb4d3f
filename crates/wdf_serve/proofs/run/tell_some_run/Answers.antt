-- The run that the threads made has ended, and its text was said.
use Rattle.std.proofs.Common.{inr, refl}
use Rattle.wdf_dev.specs.Agents.{agent_meaning}
use Rattle.wdf_output.specs.Refusals.{no_memory_line}
use Rattle.wdf_serve.proofs.run.tell_some_run.Goals as goal
use Rattle.wdf_top.specs.Answers.{Freely}
use Rattle.wdf_top.proofs.Due.{trace_told}

pub write_run-requires : goal.write_run-requires
write_run-requires g c = rw c.in-Ok.ensures.plan c.in-Ok.ensures.ended

pub returns-in-Ok-clause-told : goal.returns-in-Ok-clause-told
returns-in-Ok-clause-told g c =
    trace_told c.args.plan agent_meaning Freely _ c.in-Ok.core.journal _ _ c.in-Ok.ensures.plan (c.in-Ok.ensures.run, c.in-Ok.ensures.ended) c.write_run.ensures.said

pub returns-in-Err-clause-told : goal.returns-in-Err-clause-told
returns-in-Err-clause-told g c = (no_memory_line, 15, inr (refl, refl), rw c.from.ensures at c.tell.ensures.said)
