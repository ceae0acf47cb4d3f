-- The devices before the index have heard, and the others are as they were.
use Rattle.std.proofs.Common.{◌≡◌, ◌++◌, map, take, drop}
use Rattle.check_past.specs.Past.{before}
use Rattle.check_idle.specs.Watched.{watched_after}
use Rattle.check_idle.proofs.watches.feed_each.Given as goal

abbrev pub invariant-loop-watch : goal.invariant-loop-watch
invariant-loop-watch l = l.watches ≡ map (watched_after (before l.past) l.now l.event) (take l.watch-index l.initial.watches) ++ drop l.watch-index l.initial.watches
