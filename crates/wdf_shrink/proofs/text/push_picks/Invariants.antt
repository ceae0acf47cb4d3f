-- What was added, and what is left to add.
use Rattle.std.proofs.Common.{◌≡◌, ◌++◌, drop}
use Rattle.wdf_shrink.specs.Texts.{picks_text}
use Rattle.wdf_shrink.proofs.text.push_picks.Given as goal

abbrev pub invariant-loop-pick : goal.invariant-loop-pick
invariant-loop-pick l = l.out.items ++ picks_text (drop l.pick-index l.picks) ≡ l.fn.out.items ++ picks_text l.picks
