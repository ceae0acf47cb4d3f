-- It was so of no frame before the place.
use Rattle.std.proofs.Common.{◌≡◌, false, take}
use Rattle.std.specs.List.{list_any}
use Rattle.wdf_model.specs.parts.Cpus.{all_frames, frame_of}
use Rattle.wdf_cpu.specs.FrameTests.{passes}
use Rattle.wdf_cpu.proofs.cpus.Cpus.any.Given as goal

abbrev pub invariant-loop-place : goal.invariant-loop-place
invariant-loop-place l = list_any (λ f. passes l.test (frame_of l.self f)) (take l.place (all_frames l.self)) ≡ false
