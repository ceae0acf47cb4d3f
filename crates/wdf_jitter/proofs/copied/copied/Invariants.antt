-- What was copied, and what is left to copy.
use Rattle.std.proofs.Common.{◌≡◌, ◌++◌, length, drop}
use Rattle.wdf_jitter.proofs.copied.copied.Given as goal

abbrev pub invariant-loop-item : goal.invariant-loop-item
invariant-loop-item g l = (length l.copy ≡ l.item-index) × (l.copy ++ drop l.item-index l.items ≡ l.items)
