-- A frame that runs has an event; else there is a first event exactly where there is any.
use Rattle.std.proofs.Common.{ap, is_some, sym, ◌∙◌}
use Rattle.wdf_model.specs.rules.Ready.{ready}
use Rattle.wdf_core.proofs.Journal.{any_first}
use Rattle.wdf_core.proofs.machine.Core.any_ready.Goals as goal

pub returns-then-any_runs : goal.returns-then-any_runs
returns-then-any_runs g c = sym (c.any_runs.ensures c.if-any_runs.true)

pub returns : goal.returns
returns g c = c.is_some.ensures ∙ ap is_some c.first_ready.ensures ∙ any_first (ready c.args.self.now.plan g.A.Agent.meaning c.args.self.now.journal)
