-- What is left from a processor on has the frame at the place that is left.
use Rattle.std.proofs.Common.{◌≡◌, ◌<◌, ◌++◌, length, drop}
use Rattle.std.specs.List.{slice_get}
use Rattle.wdf_cpu.proofs.Places.{stacked}
use Rattle.wdf_cpu.proofs.frames.frame_in.Given as goal

abbrev pub invariant-loop-stack : goal.invariant-loop-stack
invariant-loop-stack l = record {
  same : slice_get (stacked (drop l.stack-index l.stacks) ++ l.parked) l.left ≡ slice_get (stacked l.stacks ++ l.parked) l.fn.place;
  within : l.left < length (stacked (drop l.stack-index l.stacks) ++ l.parked);
}
