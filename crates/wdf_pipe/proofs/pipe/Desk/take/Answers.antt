-- A pop keeps the rule.
use Rattle.std.proofs.Common.{◌∙◌, ap}
use Rattle.wdf_pipe.proofs.Pipes.{gets}
use Rattle.wdf_pipe.proofs.pipe.Desk.take.Goals as goal

pub try_pop_as-requires-clause-rule : goal.try_pop_as-requires-clause-rule
try_pop_as-requires-clause-rule g c = gets _ _ (ap (λ v. v.takes) c.loop.invariant.1 ∙ c.requires.takes)
