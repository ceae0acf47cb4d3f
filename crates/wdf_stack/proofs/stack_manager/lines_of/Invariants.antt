-- The lines so far are the first posts.
use Rattle.std.proofs.Common.{◌≡◌, take}
use Rattle.wdf_base.specs.Plan.{posts_of}
use Rattle.wdf_stack.proofs.stack_manager.lines_of.Given as goal

abbrev pub invariant-loop-k : goal.invariant-loop-k
invariant-loop-k l = l.lines ≡ take l.k (posts_of l.plan 0)
