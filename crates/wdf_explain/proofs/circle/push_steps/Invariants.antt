-- What was added, and what the steps that are left add.
use Rattle.std.proofs.Common.{◌≡◌, ◌-◌, ◌++◌}
use Rattle.wdf_explain.specs.Links.{steps_text}
use Rattle.wdf_explain.proofs.circle.push_steps.Given as goal

abbrev pub invariant-loop-step : goal.invariant-loop-step
invariant-loop-step l = l.out ++ steps_text l.nexts (l.steps - l._step) l.at ≡ l.fn.out ++ steps_text l.nexts l.steps l.from
