-- The whole input was read, within the limit.
use Rattle.std.proofs.Common.{arith}
use Rattle.wdf_hunt.proofs.read.read_text.Goals as goal

pub returns-clause-text : goal.returns-clause-text
returns-clause-text g c = (c.in_ok-text.ensures.text, omega (arith, c.in_ok-text.ensures.small, c.in_ok-text.text.ok), c.in_ok-text.ensures.quiet (λ h. cc))
