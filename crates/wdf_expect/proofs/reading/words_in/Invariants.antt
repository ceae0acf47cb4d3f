-- The words among the parts before this one.
use Rattle.std.proofs.Common.{◌≡◌, filter, map, take}
use Rattle.wdf_expect.specs.Reading.{is_some_word}
use Rattle.wdf_expect.proofs.reading.words_in.Given as goal

abbrev pub invariant-loop-part : goal.invariant-loop-part
invariant-loop-part l = l.words.items ≡ filter is_some_word (map (λ part. part.now) (take l.part-index l.part-items))
