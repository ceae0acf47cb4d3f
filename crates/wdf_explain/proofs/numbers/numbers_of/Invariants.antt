-- The numbers among the events so far.
use Rattle.std.proofs.Common.{◌≡◌, take}
use Rattle.wdf_explain.specs.About.{numbers_of}
use Rattle.wdf_explain.proofs.numbers.numbers_of.Given as goal

abbrev pub invariant-loop-k : goal.invariant-loop-k
invariant-loop-k l = l.numbers.items ≡ numbers_of l.asked (take l.k l.events)
