-- The first event may come, or none may.
use Rattle.std.proofs.Common.{refl, sym}
use Rattle.wdf_model.specs.rules.Ready.{ready}
use Rattle.wdf_core.proofs.Journal.{none_first}
use Rattle.wdf_core.proofs.machine.Core.apply_first.Goals as goal

pub take-requires : goal.take-requires
take-requires g c = (0, sym c.in-Some.ensures)

pub returns-in-Some-clause-taken : goal.returns-in-Some-clause-taken
returns-in-Some-clause-taken g c = λ yes. (c.in-Some.event, sym c.in-Some.ensures, c.take.ensures.journal)

pub returns-in-None-clause-over : goal.returns-in-None-clause-over
returns-in-None-clause-over g c = λ no. (none_first (ready c.args.self.now.plan g.A.Agent.meaning c.args.self.now.journal) (sym c.in-None.ensures), refl)
