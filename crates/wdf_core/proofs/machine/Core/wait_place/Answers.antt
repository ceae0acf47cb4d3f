-- One line further.
use Rattle.std.proofs.Common.{sym, ◌∙◌, arith}
use Rattle.wdf_model.specs.rules.Waits.{wait_list}
use Rattle.wdf_core.proofs.Walking.{rest_left, some_left}
use Rattle.wdf_core.proofs.machine.Core.wait_place.Goals as goal

pub next_wait-requires : goal.next_wait-requires
next_wait-requires g c =
    some_left (wait_list c.args.self.now.plan g.A.Agent.meaning c.args.self.now.journal) _ c.loop-line._line c.loop-line.invariant (omega (arith, c.requires))

pub loop-line-preserved : goal.loop-line-preserved
loop-line-preserved g c =
    rest_left (wait_list c.args.self.now.plan g.A.Agent.meaning c.args.self.now.journal) _ c.loop-line._line _ (sym c.loop-line.invariant ∙ c.next_wait.ensures)
