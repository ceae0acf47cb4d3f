-- A resume is due where the count isn't 0.
use Rattle.wdf_power.specs.Held.{holdings_in}
use Rattle.wdf_power.proofs.Readers.{resume_counted}
use Rattle.wdf_power.proofs.holdings.Holdings.some_resume_due.Goals as goal

pub returns : goal.returns
returns c = rw (← c.self.view_is, c.of.ensures) (resume_counted (holdings_in c.self.inside) c.self.inside.resumes c.self.invariant.resumes)
