-- The picks so far, each of which fits.
use Rattle.std.proofs.Common.{◌≡◌, ◌<◌, ◌^◌, All, take}
use Rattle.wdf_shrink.proofs.story.copied.Given as goal

abbrev pub invariant-loop-pick : goal.invariant-loop-pick
invariant-loop-pick l = (l.copy.items ≡ take l.pick-index l.picks) × All (λ pick. pick < 2 ^ 64) l.copy.items
