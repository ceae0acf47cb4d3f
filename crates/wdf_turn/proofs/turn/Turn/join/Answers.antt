use Rattle.std.proofs.Common.{rules, ap, ◌∙◌}
use Rattle.wdf_turn.specs.Tokens.{slots_of}
use Rattle.wdf_turn.proofs.Seats.{joins}
use Rattle.wdf_turn.proofs.Steps.{looks}
use Rattle.wdf_turn.proofs.turn.Turn.join.Goals as goal

pub join_seat-requires : goal.join_seat-requires
join_seat-requires g c = let own = c.requires.own in let idle = c.requires.idle in (
  own.1.0,
  own.0.0,
  c.args.seat.slots ∙ ap slots_of idle.1,
  search rules,
  joins g.T.Chronicle.root g.T.Chronicle.events _ _ _ _ _ _ own.1.1 own.0.1 c.requires.first c.args.into.now.settled idle.1,
)

pub load-requires : goal.load-requires
load-requires g c = let went = c.join_seat.ensures in (
  search rules,
  search rules,
  looks g.T.Chronicle.root g.T.Chronicle.events _ _ _ _ _ _ (ap (λ m. m.0.opening) went.2 ∙ c.requires.own.1.1),
)
