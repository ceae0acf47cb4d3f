-- So many are empty, and there is room for the rest.
use Rattle.std.proofs.Common.{◌≡◌, ◌≤◌, [], replicate}
use Rattle.wdf_cpu.proofs.fresh.empty_stacks.Given as goal

abbrev pub invariant-loop-cpu : goal.invariant-loop-cpu
invariant-loop-cpu l = record { empty : l.stacks.items ≡ replicate l._cpu []; room : l.cpus ≤ l.stacks.cap }
