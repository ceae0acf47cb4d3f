-- What was added, and what is left to add.
use Rattle.std.proofs.Common.{◌≡◌, ◌++◌, drop}
use Rattle.wdf_explain.specs.About.{event_lines}
use Rattle.wdf_explain.proofs.numbers.push_events.Given as goal

abbrev pub invariant-loop-number : goal.invariant-loop-number
invariant-loop-number l = l.out ++ event_lines l.plan l.events (drop l.number-index l.numbers) ≡ l.fn.out ++ event_lines l.plan l.events l.numbers
