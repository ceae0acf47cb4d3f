-- One request more.
use Rattle.std.proofs.Common.{◌∙◌, arith}
use Rattle.wdf_request.specs.Closed.{is_part}
use Rattle.wdf_request.proofs.Closing.{close_next}
use Rattle.wdf_request.proofs.requests.Requests.close_part.Goals as goal

pub loop-id-preserved : goal.loop-id-preserved
loop-id-preserved c =
    let size = c.loop-id.invariant.size in
    record {
      size = c.close_one.ensures.size ∙ size;
      done = c.close_one.ensures.done ∙ close_next (is_part c.args.part) c.args.self.now c.loop-id.self c.loop-id.id c.loop-id.invariant.done (omega arith);
    }
