-- What is found, with what is left, comes to the least of all.
use Rattle.std.proofs.Common.{◌≡◌, None}
use Rattle.wdf_causes.proofs.OnFrames.{frames_from}
use Rattle.wdf_causes.proofs.least.least_frame.Given as goal

abbrev pub invariant-loop-place : goal.invariant-loop-place
invariant-loop-place l = frames_from l.cpus l.test l.place l.least ≡ frames_from l.cpus l.test 0 None
