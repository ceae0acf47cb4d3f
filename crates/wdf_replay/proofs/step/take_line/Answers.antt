-- A line that no line feed ends is none.
use Rattle.std.proofs.Common.{refl}
use Rattle.wdf_replay.proofs.Taken.{taken_none}
use Rattle.wdf_replay.proofs.step.take_line.Goals as goal

pub returns-in-None-clause-taken : goal.returns-in-None-clause-taken
returns-in-None-clause-taken g c =
    taken_none c.args.core.now.plan g.A.Agent.meaning c.args.core.now.journal c.args.core.now.journal c.args.told c.args.line.now refl c.in-None.ensures.none
