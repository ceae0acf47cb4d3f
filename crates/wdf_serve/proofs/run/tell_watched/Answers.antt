-- The one run that was watched has ended, and its text was said; where there was no memory, the sink is as it was.
use Rattle.std.proofs.Common.{inr, refl}
use Rattle.wdf_dev.specs.Agents.{agent_meaning}
use Rattle.wdf_output.specs.Refusals.{no_memory_line}
use Rattle.wdf_serve.proofs.run.tell_watched.Goals as goal
use Rattle.wdf_top.specs.Answers.{Freely}
use Rattle.wdf_top.proofs.Due.{trace_told}

pub returns-in-Ok-clause-told : goal.returns-in-Ok-clause-told
returns-in-Ok-clause-told g c = let h = c.in-Ok.ensures.watched in trace_told c.args.plan agent_meaning Freely _ h.run _ _ refl (h.runs, h.ended) h.said

pub returns-in-Err-clause-told : goal.returns-in-Err-clause-told
returns-in-Err-clause-told g c = (no_memory_line, 15, inr (refl, refl), rw (c.in-Err.ensures.unused, c.from.ensures) at c.tell.ensures.said)
