-- The line of an event is read back, so a text that isn't is the line of none.
use Rattle.std.proofs.Common.{refl}
use Rattle.wdf_replay.proofs.Taken.{read_no_event}
use Rattle.wdf_replay.proofs.step.read_text.Goals as goal

pub returns-in-None-clause-read : goal.returns-in-None-clause-read
returns-in-None-clause-read g c =
    read_no_event c.args.core.now.plan g.A.Agent.meaning c.args.core.now.journal c.args.core.now.journal c.args.text.now c.plan.result.now c.read_line.result
    c.plan.ensures c.requires c.in-None.is refl c.read_line.ensures.each
