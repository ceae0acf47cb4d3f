-- What was added, and what is left to add.
use Rattle.std.proofs.Common.{◌≡◌, ◌+◌, ◌++◌, drop}
use Rattle.wdf_explain.specs.Stories.{wait_stories}
use Rattle.wdf_explain.proofs.stuck.push_waits.Given as goal

abbrev pub invariant-loop-wait : goal.invariant-loop-wait
invariant-loop-wait l =
    (l.out ++ wait_stories l.plan l.events l.waits (l.before + 1) (drop l.wait-index l.waits) ≡ l.fn.out ++ wait_stories l.plan l.events l.waits 1 l.waits)
    × (l.before ≡ l.wait-index)
