-- The line at its place.
use Rattle.std.proofs.Common.{sym, ◌∙◌}
use Rattle.wdf_model.specs.rules.Waits.{wait_list}
use Rattle.wdf_core.proofs.Walking.{item_at, some_left}
use Rattle.wdf_core.proofs.machine.Core.wait_at.Goals as goal

pub next_wait-requires : goal.next_wait-requires
next_wait-requires g c =
    some_left (wait_list c.args.self.now.plan g.A.Agent.meaning c.args.self.now.journal) _ c.args.k c.wait_place-place.ensures c.requires

pub returns : goal.returns
returns g c =
    item_at (wait_list c.args.self.now.plan g.A.Agent.meaning c.args.self.now.journal) _ c.args.k _ (sym c.wait_place-place.ensures ∙ c.next_wait.ensures)
