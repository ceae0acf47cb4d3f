-- One line less is left.
use Rattle.std.proofs.Common.{inr}
use Rattle.wdf_replay.proofs.AfterEvents.{some_wait, waits_left, waits_rest}
use Rattle.wdf_replay.proofs.told.wait_told.Goals as goal

pub next_wait-requires : goal.next_wait-requires
next_wait-requires g c =
    some_wait c.args.core.now.plan g.A.Agent.meaning c.args.core.now.journal c.args.told
    (waits_left c.args.core.now.plan g.A.Agent.meaning c.args.core.now.journal c.args.told c.requires.told c.requires.ended) c.requires.there

pub returns-clause-told : goal.returns-clause-told
returns-clause-told g c =
    inr (waits_rest c.args.core.now.plan g.A.Agent.meaning c.args.core.now.journal c.args.told c.next_wait.result.0 _
    (waits_left c.args.core.now.plan g.A.Agent.meaning c.args.core.now.journal c.args.told c.requires.told c.requires.ended) c.next_wait.ensures)
