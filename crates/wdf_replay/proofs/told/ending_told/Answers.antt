-- The whole wait list is left.
use Rattle.std.proofs.Common.{inr, ap, sym, length, ◌∙◌}
use Rattle.wdf_replay.proofs.AfterEvents.{waits_follow}
use Rattle.wdf_replay.proofs.told.ending_told.Goals as goal

pub returns-clause-told : goal.returns-clause-told
returns-clause-told g c =
    inr (waits_follow c.args.core.now.plan g.A.Agent.meaning c.args.core.now.journal _ c.requires c.first_wait.ensures, ap length c.first_wait.ensures ∙ sym c.wait_len.ensures)
