-- The front leaves, until nobody waits.
use Rattle.std.proofs.Common.{◌<◌, length, drop, sym, ◌∙◌, arith}
use Rattle.wdf_model.specs.parts.Queues.{waiting_in}
use Rattle.wdf_queue.proofs.Cleared.{clear_rest, shorter, clear_empty}
use Rattle.wdf_queue.proofs.queues.Queues.clear.Goals as goal

pub loop-q-smaller : goal.loop-q-smaller
loop-q-smaller c =
    let fewer : length (waiting_in c.drop_front.new.self c.args.q.0) < length (waiting_in c.loop-q.self c.args.q.0) =
    rw c.drop_front.ensures.rest (shorter c.loop-q.self c.args.q.0 (sym c.loop-q-test.ensures)) in
    fewer

pub loop-q-preserved : goal.loop-q-preserved
loop-q-preserved c = record {
  kinds = rw c.drop_front.ensures.rest c.loop-q.invariant.kinds;
  long = c.drop_front.ensures.size ∙ c.loop-q.invariant.long;
  rest = rw c.drop_front.ensures.rest (clear_rest c.loop-q.self c.args.q.0 (drop 1) ∙ c.loop-q.invariant.rest);
}

pub returns : goal.returns
returns c =
    let there : c.args.q.0 < length c.loop-q.self.waiting = omega arith in
    clear_empty c.loop-q.self c.args.q.0 there (sym c.loop-q-test.ensures) ∙ c.loop-q.invariant.rest
