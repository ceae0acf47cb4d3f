-- The promises of the top call, from what is told.
use Rattle.wdf_top.proofs.Promised.{promised}
use Rattle.wdf_top.proofs.top.top_plain.Goals as goal

pub returns : goal.returns
returns g c = record {
  promises = promised _ _ _ c.answer.result (rw c.form_of.ensures at c.answer.ensures.told);
  not_again = c.answer.ensures.not_again;
}
