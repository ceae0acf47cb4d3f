-- The agents so far are those that were handed out.
use Rattle.std.proofs.Common.{◌≡◌}
use Rattle.test_kept.proofs.asked.asked_all.Given as goal

abbrev pub invariant-loop-agent : goal.invariant-loop-agent
invariant-loop-agent l = l.all.items ≡ l.yielded
