-- The scene of a text has proper names, and so its plan is resolved.
use Rattle.wdf_parse.proofs.ProperNames.{stands_properly}
use Rattle.test_ready.proofs.opening.plan_of.Goals as goal

pub returns-in-Ok-resolve : goal.returns-in-Ok-resolve
returns-in-Ok-resolve c = c.in-Ok-resolve.ensures.resolved (stands_properly _ c.in-Ok.scene c.in-Ok.ensures.stands)
