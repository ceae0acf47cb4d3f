-- The wait line that a line gives has the same text.
use Rattle.wdf_trace.proofs.ResolvedLaws.{HasNames-resolved}
use Rattle.wdf_trace.proofs.WaitLaws.{wait_read}
use Rattle.wdf_trace.proofs.waits.reads_as_wait.Goals as goal

pub returns-clause-each : goal.returns-clause-each
returns-clause-each c = λ h wait valid same.
    c.is_line_of_wait.ensures.1 (wait_read c.args.plan.now (HasNames-resolved c.args.plan.now h) c.args.text.now c.wait_in.result c.wait_in.ensures wait valid same)
