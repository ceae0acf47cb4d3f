-- Of what rests nothing may come.
use Rattle.std.proofs.Common.{not, ap, sym, ◌∙◌}
use Rattle.wdf_offers.proofs.AtRest.{high_off, undue_off}
use Rattle.wdf_offers.proofs.resting.rests.Goals as goal

pub returns-then-not-level_fits-clause-none : goal.returns-then-not-level_fits-clause-none
returns-then-not-level_fits-clause-none g c = λ high o.
    high_off c.args.plan.now g.A.Agent.meaning c.args.parts.now c.requires.settled c.args.cpu.0 c.args.rank (ap not (sym c.level_fits.ensures) ∙ high) o

pub returns-else-not-level_fits-clause-none : goal.returns-else-not-level_fits-clause-none
returns-else-not-level_fits-clause-none g c = λ on o.
    undue_off c.args.plan.now g.A.Agent.meaning c.args.parts.now c.requires.settled c.args.cpu.0 c.args.rank (sym c.none_due.ensures ∙ on) o
