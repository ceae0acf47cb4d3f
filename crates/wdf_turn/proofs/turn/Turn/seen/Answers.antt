use Rattle.std.proofs.Common.{rules}
use Rattle.wdf_turn.proofs.Steps.{looks}
use Rattle.wdf_turn.proofs.turn.Turn.seen.Goals as goal

pub load-requires : goal.load-requires
load-requires g c = (c.requires.own.0, search rules, looks g.T.Chronicle.root g.T.Chronicle.events _ _ _ _ _ _ c.requires.own.1)
