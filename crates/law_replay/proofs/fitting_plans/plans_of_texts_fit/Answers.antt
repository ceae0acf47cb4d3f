-- The clause is the lemma on plans.
use Rattle.law_replay.proofs.Plans.{plan_fits}
use Rattle.law_replay.proofs.fitting_plans.plans_of_texts_fit.Goals as goal

pub returns : goal.returns
returns c = plan_fits
