use Rattle.std.proofs.Common.{rules}
use Rattle.wdf_turn.proofs.Seats.{splits}
use Rattle.wdf_turn.proofs.turn.Turn.split.Goals as goal

pub split_seat-place-requires : goal.split_seat-place-requires
split_seat-place-requires g c = (c.requires.own.0, search rules, splits g.T.Chronicle.root g.T.Chronicle.events _ _ _ _ c.requires.own.1 c.requires.left)
