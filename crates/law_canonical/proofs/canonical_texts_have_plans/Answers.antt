-- The clause is the lemma.
use Rattle.law_canonical.proofs.Canonical.{has_plan_too}
use Rattle.law_canonical.proofs.canonical_texts_have_plans.Goals as goal

pub returns : goal.returns
returns c = has_plan_too
