-- The ranges before this one follow one another, and have so many seeds.
use Rattle.std.proofs.Common.{◌≡◌, take}
use Rattle.wdf_sum.specs.Lines.{count_of}
use Rattle.wdf_sum.proofs.Joining.{FollowTo}
use Rattle.wdf_sum.proofs.joined.follow.Given as goal

abbrev pub invariant-loop-k : goal.invariant-loop-k
invariant-loop-k l = (l.done ≡ count_of (take l.k l.ends)) × FollowTo l.k l.from l.ends
