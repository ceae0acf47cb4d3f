-- The run that was made is summed up.
use Rattle.std.proofs.Common.{sym, ◌∙◌}
use Rattle.wdf_output.proofs.Sinks.{ending_no_sink}
use Rattle.wdf_top.proofs.Due.{summary_told}
use Rattle.wdf_top.proofs.load.tell_summary.Goals as goal

pub returns-in-Ok-clause-told : goal.returns-in-Ok-clause-told
returns-in-Ok-clause-told g c =
    summary_told c.args.number c.in-Ok.core.plan c.in-Ok.core.journal _ _ c.in-Ok.ensures.plan c.in-Ok.ensures.picked (rw (c.bytes.ensures, c.summary.ensures, c.status_of.ensures, c.ending.ensures) at c.say.ensures.said)

pub returns-in-Ok-clause-not_again : goal.returns-in-Ok-clause-not_again
returns-in-Ok-clause-not_again g c = c.say.ensures.not_again (λ h. ending_no_sink c.ending.result (sym c.status_of.ensures ∙ h))
