-- The words before this one.
use Rattle.std.proofs.Common.{◌≡◌, take}
use Rattle.wdf_expect.proofs.words.copies_of.Given as goal

abbrev pub invariant-loop-word : goal.invariant-loop-word
invariant-loop-word l = l.copies.items ≡ take l.word-index l.words
