-- The two ends put together keep the rule, and know the whole.
use Rattle.std.proofs.Common.{rules}
use Rattle.wdf_pipe.proofs.Pipes.{merges, totals}
use Rattle.wdf_pipe.proofs.pipe.put_together.Goals as goal

pub absorb-requires-clause-rule : goal.absorb-requires-clause-rule
absorb-requires-clause-rule c = merges _ _ _ _ c.requires.sends c.requires.takes

pub learn_as-requires-clause-rule : goal.learn_as-requires-clause-rule
learn_as-requires-clause-rule c = totals _ _ (search rules) (search rules)
