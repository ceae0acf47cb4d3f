-- Where the sink fails in the lines or behind them, a front of all is written.
use Rattle.std.proofs.Common.{inr, refl, [], sym}
use Rattle.std.proofs.lemmas.List.{append-nil}
use Rattle.wdf_live.proofs.Exits.{says_cut}
use Rattle.wdf_live.proofs.rest.write_rest.Goals as goal
use Rattle.wdf_output.proofs.Writing.{cut_behind}

pub returns-in-Err-write_end-clause-said : goal.returns-in-Err-write_end-clause-said
returns-in-Err-write_end-clause-said g c =
    inr (refl, cut_behind _ _ _ _ _ _ _ _ [] _ c.in-Ok.ensures.whole c.in-Ok.ensures.never_falls c.in-Err-write_end.ensures.never_falls c.in-Err-write_end.ensures.cut (sym (append-nil _)))

pub returns-in-Err-clause-said : goal.returns-in-Err-clause-said
returns-in-Err-clause-said g c = says_cut _ _ _ _ _ _ _ _ refl c.in-Err.ensures.cut
