-- The events so far were read, what is kept is what they say, and none of them breaks the law.
use Rattle.std.proofs.Common.{◌≡◌, take}
use Rattle.law_idle.specs.Idling.{time_after}
use Rattle.check_idle.specs.First.{NoneBefore}
use Rattle.check_idle.specs.Timed.{watches_after}
use Rattle.check_idle.proofs.checker.first_broken.Given as goal

abbrev pub invariant-loop-k : goal.invariant-loop-k
invariant-loop-k l =
    (l.past ≡ record { plan = l.plan; all = l.events; number = l.k }) × (l.now ≡ time_after (take l.k l.events)) × (l.watches.items ≡ watches_after l.plan (take l.k l.events)) × NoneBefore l.plan l.events l.k
