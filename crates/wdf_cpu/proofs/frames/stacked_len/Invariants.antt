-- The frames of the processors so far.
use Rattle.std.proofs.Common.{◌≡◌, length, take}
use Rattle.wdf_cpu.proofs.Places.{stacked}
use Rattle.wdf_cpu.proofs.frames.stacked_len.Given as goal

abbrev pub invariant-loop-stack : goal.invariant-loop-stack
invariant-loop-stack l = l.total ≡ length (stacked (take l.stack-index l.stacks))
