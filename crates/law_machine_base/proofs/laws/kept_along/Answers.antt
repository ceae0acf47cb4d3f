-- The law is the lemma on facts, at the facts that a test decides.
use Rattle.std.proofs.Common.{IsTrue}
use Rattle.wdf_model.proofs.Runs.{along_run}
use Rattle.law_machine_base.proofs.laws.kept_along.Goals as goal

pub returns : goal.returns
returns g c = λ ready kept run opens keeps is_run place. along_run (λ events. IsTrue (kept events)) ready run opens keeps is_run place
