-- The first broken law is none exactly where all are kept.
use Rattle.check_trace.proofs.Exactly.{kept_if}
use Rattle.check_trace.proofs.checker.check.Goals as goal

pub returns-clause-kept : goal.returns-clause-kept
returns-clause-kept c = kept_if c.args.plan.now c.args.events.now c.first_broken.result c.first_broken.ensures
