-- The objects so far were asked.
use Rattle.std.proofs.Common.{◌≡◌, fold, length, take}
use Rattle.wdf_model.specs.parts.Tree.{ask_one, subtree}
use Rattle.wdf_tree.proofs.tree.Tree.ask_delete.Given as goal

abbrev pub invariant-loop-id : goal.invariant-loop-id
invariant-loop-id l = record {
  asked : l.self ≡ fold ask_one l.fn.self (take l.id-index (subtree l.fn.self l.fn.o.0));
  size : length l.self.nodes ≡ length l.fn.self.nodes;
}
