use Rattle.std.proofs.Common.{◌≡◌, ◌∷◌, map, take}
use Rattle.wdf_model.specs.parts.Tree.{declared_node, gone}
use Rattle.wdf_tree.proofs.tree.Tree.declare.Given as goal

abbrev pub invariant-loop-declared : goal.invariant-loop-declared
invariant-loop-declared l =
    l.self ≡ record { limit = l.plan.objects; nodes = gone ∷ map declared_node (take l.declared-index l.plan.declared) }
