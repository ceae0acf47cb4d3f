-- The line of the refusal is said.
use Rattle.wdf_top.proofs.verdict.say_verdict.Goals as goal

pub returns-in-RefusedAt-clause-said : goal.returns-in-RefusedAt-clause-said
returns-in-RefusedAt-clause-said g c = rw c.in-RefusedAt.is (rw (c.bytes-in-RefusedAt.ensures, c.refused_line.ensures) at c.say-in-RefusedAt.ensures.said)
