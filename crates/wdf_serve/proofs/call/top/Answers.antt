-- The promises of the top call, from what is told.
use Rattle.wdf_serve.proofs.Promised.{promised}
use Rattle.wdf_serve.proofs.call.top.Goals as goal

pub returns : goal.returns
returns g c = record {
  promises = promised _ _ _ c.answer.result c.answer.ensures.told;
  not_again = c.answer.ensures.not_again;
}
