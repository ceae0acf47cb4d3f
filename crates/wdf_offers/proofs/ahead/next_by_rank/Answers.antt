-- The herd of the rank says it.
use Rattle.std.proofs.Common.{subst}
use Rattle.wdf_sets.specs.Nexts.{NoneFrom}
use Rattle.wdf_offers.specs.Ahead.{may_be_due_on}
use Rattle.wdf_offers.proofs.NoneAhead.{by_herd}
use Rattle.wdf_offers.proofs.ahead.next_by_rank.Goals as goal

pub returns-in_default : goal.returns-in_default
returns-in_default g c =
    by_herd c.args.parts.now c.args.rank c.args.from c.next_of_herd.result c.in_default.not-Completion
    (subst (λ h. NoneFrom (may_be_due_on c.args.parts.now h) c.args.from c.next_of_herd.result) c.herd_of.ensures c.next_of_herd.ensures)
