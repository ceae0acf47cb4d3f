-- The members of the set are those objects.
use Rattle.std.proofs.Common.{ap, length}
use Rattle.wdf_tree.specs.Inside.{tree_in}
use Rattle.wdf_tree.proofs.Turns.{turns_are}
use Rattle.wdf_tree.proofs.tree.Tree.turn_len.Goals as goal

pub returns-clause-count : goal.returns-clause-count
returns-clause-count c =
    rw (c.len.ensures, ← c.self.view_is)
    (ap length (turns_are (tree_in c.self.inside) c.self.inside.waiting c.self.inside.turns c.self.invariant.turns c.self.invariant.kept.waiting_kin c.self.invariant.kept.few))

pub returns-clause-room : goal.returns-clause-room
returns-clause-room c = rw (← c.self.view_is) c.self.invariant.kept.few
