-- How many of the frames before the place pass.
use Rattle.std.proofs.Common.{◌≡◌, count_by, take}
use Rattle.wdf_model.specs.parts.Cpus.{all_frames, frame_of}
use Rattle.wdf_cpu.specs.FrameTests.{passes}
use Rattle.wdf_cpu.proofs.cpus.Cpus.count.Given as goal

abbrev pub invariant-loop-place : goal.invariant-loop-place
invariant-loop-place l = l.count ≡ count_by (λ f. passes l.test (frame_of l.self f)) (take l.place (all_frames l.self))
