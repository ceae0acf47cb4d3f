-- What is looked for is among the ids from here on.
use Rattle.std.proofs.Common.{◌≡◌, slice_get}
use Rattle.wdf_defer.specs.Timers.{due_from, due_ids}
use Rattle.wdf_defer.proofs.timers.Timers.searched_nth.Given as goal

abbrev pub invariant-loop-id : goal.invariant-loop-id
invariant-loop-id l = slice_get (due_from l.self l.now l.id) l.left ≡ slice_get (due_ids l.self l.now) l.k
