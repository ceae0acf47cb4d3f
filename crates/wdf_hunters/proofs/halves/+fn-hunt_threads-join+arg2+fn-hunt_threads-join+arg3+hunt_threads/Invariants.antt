-- Each half is halved once less.
use Rattle.std.proofs.Common.{◌-◌, ◌*◌}
use Rattle.wdf_hunters.proofs.halves.+fn-hunt_threads-join+arg2+fn-hunt_threads-join+arg3+hunt_threads.Given as goal

abbrev pub decreases-join+arg2 : goal.decreases-join+arg2
decreases-join+arg2 g l = 2 * l.halvings - 1

abbrev pub decreases-join+arg3 : goal.decreases-join+arg3
decreases-join+arg3 g l = 2 * l.halvings - 1

abbrev pub decreases-hunt_threads : goal.decreases-hunt_threads
decreases-hunt_threads g l = 2 * l.halvings
