-- The lines before this one.
use Rattle.std.proofs.Common.{◌≡◌, map, take}
use Rattle.wdf_explain.specs.Links.{next_of}
use Rattle.wdf_explain.proofs.links.nexts_of.Given as goal

abbrev pub invariant-loop-wait : goal.invariant-loop-wait
invariant-loop-wait l = l.nexts.items ≡ map (next_of l.waits) (take l.wait-index l.waits)
