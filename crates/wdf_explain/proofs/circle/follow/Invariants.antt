-- The steps that are left lead to the same line.
use Rattle.std.proofs.Common.{◌≡◌, ◌-◌}
use Rattle.wdf_explain.specs.Links.{follow}
use Rattle.wdf_explain.proofs.circle.follow.Given as goal

abbrev pub invariant-loop-step : goal.invariant-loop-step
invariant-loop-step l = follow l.nexts (l.steps - l._step) l.at ≡ follow l.nexts l.steps l.from
