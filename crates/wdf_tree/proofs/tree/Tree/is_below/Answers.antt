use Rattle.std.proofs.Common.{sym, ◌∙◌, arith}
use Rattle.wdf_tree.proofs.Marks.{none_below_past, below_goes_up}
use Rattle.wdf_tree.proofs.tree.Tree.is_below.Goals as goal

pub returns-then-below-len : goal.returns-then-below-len
returns-then-below-len c = sym (none_below_past c.args.self.now c.args.o.0 c.args.below.0 (omega arith))

pub up-preserved : goal.up-preserved
up-preserved c = (omega arith, below_goes_up c.args.self.now c.args.o.0 c.up.at.0 c.parent-parent.result.0 c.up.invariant.0 c.parent-parent.ensures c.if-parent-o.false c.if-parent-at.false ∙ c.up.invariant.1)
