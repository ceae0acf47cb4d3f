-- The tries of both ranges, one after the other.
use Rattle.std.proofs.Common.{◌+◌, refl}
use Rattle.wdf_hunters.proofs.Both.{hunt_of_both}
use Rattle.wdf_hunters.proofs.halves.both.Goals as goal

pub returns-clause-hunt : goal.returns-clause-hunt
returns-clause-hunt c = λ tried from m n a b.
    hunt_of_both tried from m n c.args.first c.args.second (record { tally = c.merge.new.self; events = c.args.first.events + c.args.second.events }) a b c.in_ok-merge.ensures.tally refl
