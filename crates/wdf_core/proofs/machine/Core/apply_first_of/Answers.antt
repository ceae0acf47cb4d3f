-- The first event of the side is taken, or there is none.
use Rattle.std.proofs.Common.{refl, sym}
use Rattle.wdf_model.specs.rules.Ready.{ready}
use Rattle.wdf_ready.specs.Sides.{is_of}
use Rattle.wdf_core.proofs.BySide.{found_place}
use Rattle.wdf_core.proofs.machine.Core.apply_first_of.Goals as goal

pub take-requires : goal.take-requires
take-requires g c = found_place (is_of c.args.side) (ready c.args.self.now.plan g.A.Agent.meaning c.args.self.now.journal) c.in-Some.event (sym c.in-Some.ensures)

pub returns-in-Some-clause-taken : goal.returns-in-Some-clause-taken
returns-in-Some-clause-taken g c = λ yes. (c.in-Some.event, sym c.in-Some.ensures, c.take.ensures.journal)

pub returns-in-None-clause-left : goal.returns-in-None-clause-left
returns-in-None-clause-left g c = λ no. (sym c.in-None.ensures, refl)
