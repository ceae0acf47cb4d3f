use Rattle.std.proofs.Common.{rules, sym, subst, IsSome}
use Rattle.wdf_turn.proofs.Seats.{finished, finished_with}
use Rattle.wdf_turn.proofs.turn.Turn.close.Goals as goal

pub unwrap-requires : goal.unwrap-requires
unwrap-requires g c =
    let end = finished g.T.Chronicle.root g.T.Chronicle.events _ _ _ _ _ _ c.close_with-closed.ensures.values.2 c.requires.own.1 c.requires.last.0 c.requires.last.1 c.requires.idle _ c.take-value.ensures.value in
    subst IsSome (sym end.1) (search rules)

pub returns : goal.returns
returns g c =
    let end = finished_with g.T.Chronicle.root g.T.Chronicle.events _ _ _ _ _ _ c.close_with-closed.ensures.values.2 c.requires.own.1 c.requires.last.0 c.requires.last.1 c.requires.idle c.unwrap.result (search rules) in record {
      root = end.0;
      list = end.1;
      seen = end.2;
      own = end.3;
    }
