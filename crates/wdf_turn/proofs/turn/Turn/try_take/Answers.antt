use Rattle.std.proofs.Common.{rules, ap, ◌∙◌, Some}
use Rattle.wdf_turn.proofs.Steps.{tries_with, won_slot}
use Rattle.wdf_turn.proofs.turn.Turn.try_take.Goals as goal

pub compare_exchange-found-requires : goal.compare_exchange-found-requires
compare_exchange-found-requires g c = (c.requires.own.0, search rules, tries_with g.T.Chronicle.root g.T.Chronicle.events _ _ _ _ _ _ _ (search rules) c.requires.own.1 c.requires.idle)

pub exchange-requires : goal.exchange-requires
exchange-requires g c =
    let found = c.compare_exchange-found.ensures in
    let took = found.2.0 (search rules) in
    (found.0 ∙ c.requires.own.0, (Some took.0, won_slot _ _ _ (ap (λ m. m.1) took.2)))
