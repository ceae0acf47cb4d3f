-- The word at this place decides, or those after it.
use Rattle.std.proofs.Common.{arith}
use Rattle.wdf_trace.specs.Reading.{words}
use Rattle.wdf_expect.proofs.Begun.{begun_at, stops, goes_on}
use Rattle.wdf_expect.proofs.pattern.is_begun_by.Goals as goal

pub returns-then-not-is_there : goal.returns-then-not-is_there
returns-then-not-is_there c =
    let here = begun_at c.args.pattern.now (words c.args.line.now) c.loop-word.word-index c.loop-word.place c.word-item.result c.loop-word-test.true c.word-item.is in
    stops _ _ _ _ c.is_there.result c.loop-word.invariant.left here c.is_there.ensures cc

pub loop-word-preserved : goal.loop-word-preserved
loop-word-preserved c =
    let here = begun_at c.args.pattern.now (words c.args.line.now) c.loop-word.word-index c.loop-word.place c.word-item.result c.loop-word-test.true c.word-item.is in record {
      place = omega (arith, c.loop-word.invariant.place);
      left = goes_on _ _ _ _ c.is_there.result c.loop-word.invariant.left here c.is_there.ensures cc;
    }
