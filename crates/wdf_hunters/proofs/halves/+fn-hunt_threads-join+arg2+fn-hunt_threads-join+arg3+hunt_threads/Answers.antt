-- Both halves are tried, and together they are the range.
use Rattle.std.proofs.Common.{◌/◌, arith}
use Rattle.wdf_hunters.proofs.Both.{hunt_of_halves}
use Rattle.wdf_hunters.proofs.halves.+fn-hunt_threads-join+arg2+fn-hunt_threads-join+arg3+hunt_threads.Goals as goal

pub returns-clause-hunt : goal.returns-clause-hunt
returns-clause-hunt g t c =
    hunt_of_halves c.args.case.now c.args.from c.args.count (c.args.count / 2) c.from.result c.join-first.result.0 c.join-first.result.1 c.both.result
    c.in_ok-first.field-0 c.in_ok-second.field-0 c.in_ok-first.was c.in_ok-second.was c.from.ensures (omega arith) c.join-first.ensures.first c.join-first.ensures.second
    c.both.ensures.hunt
