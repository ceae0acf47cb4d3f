-- A new pipe keeps the rule, also when its first pass is cut.
use Rattle.std.proofs.Common.{rules}
use Rattle.wdf_pipe.proofs.Pipes.{begins, forks}
use Rattle.wdf_pipe.proofs.pipe.lay.Goals as goal

pub ruled-requires-clause-rule : goal.ruled-requires-clause-rule
ruled-requires-clause-rule c = begins

pub another-printer-requires-clause-rule : goal.another-printer-requires-clause-rule
another-printer-requires-clause-rule c = forks _ _ (search rules) (search rules)
