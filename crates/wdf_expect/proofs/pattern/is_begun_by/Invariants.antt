-- The words before this one pair.
use Rattle.std.proofs.Common.{◌≡◌, ◌+◌, drop}
use Rattle.wdf_trace.specs.Reading.{words}
use Rattle.wdf_expect.specs.Patterns.{is_begun_by}
use Rattle.wdf_expect.proofs.pattern.is_begun_by.Given as goal

abbrev pub invariant-loop-word : goal.invariant-loop-word
invariant-loop-word l = record {
  place : l.place ≡ l.word-index + 1;
  left : is_begun_by l.pattern (drop 1 (words l.line)) ≡ is_begun_by (drop l.word-index l.pattern) (drop l.place (words l.line));
}
