-- The words are a form, or none.
use Rattle.std.proofs.Common.{refl, sym, arith}
use Rattle.wdf_view.proofs.Told.{usage_told}
use Rattle.wdf_view.proofs.top.view.Goals as goal

pub returns-in-Some : goal.returns-in-Some
returns-in-Some g c = record {
  told = rw (sym c.in-Some.ensures) c.show.ensures.told;
  not_again = c.show.ensures.not_again;
}

pub returns-in-None : goal.returns-in-None
returns-in-None g c = record {
  told = rw (sym c.in-None.ensures) (usage_told _ _ _ refl refl c.say.ensures.said);
  not_again = c.say.ensures.not_again (λ h. omega (arith, h));
}
