-- The stacks before the index are empty, and the others are as they were.
use Rattle.std.proofs.Common.{◌≡◌, [], ◌++◌, map, take, drop}
use Rattle.wdf_cpu.proofs.cpus.clear_each.Given as goal

abbrev pub invariant-loop-stack : goal.invariant-loop-stack
invariant-loop-stack l = l.stacks ≡ map (λ _. []) (take l.stack-index l.initial.stacks) ++ drop l.stack-index l.initial.stacks
