-- A resume is due where a request is found.
use Rattle.std.proofs.Common.{is_some, ap, ◌∙◌}
use Rattle.wdf_causes.proofs.OnRequests.{resumes_found}
use Rattle.wdf_causes.proofs.least.some_resume.Goals as goal

pub returns : goal.returns
returns g c = c.is_some.ensures ∙ ap is_some c.least_request.ensures ∙ resumes_found c.args.plan.now c.args.parts.now c.args.q
