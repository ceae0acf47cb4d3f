-- The events so far were read, the frames are those after them, and they break no law.
use Rattle.std.proofs.Common.{◌≡◌, take}
use Rattle.wdf_laws.specs.First.{Kept}
use Rattle.wdf_laws.specs.Frames.{frames_after}
use Rattle.check_trace.proofs.checker.first_broken.Given as goal

abbrev pub invariant-loop-k : goal.invariant-loop-k
invariant-loop-k l = (l.frames ≡ frames_after (take l.k l.events)) × Kept l.plan l.events l.k × (l.past ≡ record { plan = l.plan; all = l.events; number = l.k })
