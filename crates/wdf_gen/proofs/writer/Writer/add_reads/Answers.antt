-- Each turn adds what the read that is next comes to.
use Rattle.std.proofs.Common.{◌∙◌, sym, arith}
use Rattle.rand_core.specs.Steps.{stream_of}
use Rattle.rand_xoshiro.specs.SplitMix64.{splitmix_steps}
use Rattle.wdf_gen.proofs.Reading.{all_left, read_added, none_left}
use Rattle.wdf_gen.proofs.writer.Writer.add_reads.Goals as goal

pub loop-k-init : goal.loop-k-init
loop-k-init c = record {
  written = all_left c.args.self.now c.args.a c.args.n c.seed_from_u64-rng.result c.seed_from_u64-rng.ensures.same;
  lines = omega arith;
}

pub loop-k-preserved : goal.loop-k-preserved
loop-k-preserved c = record {
  written =
      read_added c.loop-k.self c.add_read.new.self c.args.a c.loop-k.k c.next_u64-word.result (stream_of splitmix_steps c.loop-k.rng) (stream_of splitmix_steps c.next_u64-word.new.self) c.loop-k-test.true c.next_u64-word.ensures c.in_ok-add_read.ensures.written
      ∙ c.loop-k.invariant.written;
  lines = omega (arith, c.in_ok-add_read.ensures.lines, c.loop-k.invariant.lines);
}

pub returns-clause-written : goal.returns-clause-written
returns-clause-written c =
    sym (none_left c.loop-k.self c.args.a c.loop-k.k (stream_of splitmix_steps c.loop-k.rng) c.loop-k-test.false)
    ∙ c.loop-k.invariant.written
