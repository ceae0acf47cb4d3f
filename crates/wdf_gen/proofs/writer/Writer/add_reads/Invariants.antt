-- What is written, with the reads that are left, comes to all the reads.
use Rattle.std.proofs.Common.{◌≡◌, ◌+◌, ◌-◌, ◌≤◌, length}
use Rattle.rand_core.specs.Steps.{stream_of}
use Rattle.rand_xoshiro.specs.SplitMix64.{splitmix_steps}
use Rattle.wdf_gen.specs.Generated.{words, seed_words, reads_from}
use Rattle.wdf_gen.specs.Writing.{extended}
use Rattle.wdf_gen.proofs.writer.Writer.add_reads.Given as goal

abbrev pub invariant-loop-k : goal.invariant-loop-k
invariant-loop-k l = record {
  written : extended l.self (reads_from l.a l.k (words (2900 - l.k) (stream_of splitmix_steps l.rng))) ≡ extended l.initial.self (reads_from l.a 0 (seed_words l.n));
  lines : length l.self.lines ≤ length l.initial.self.lines + l.k;
}
