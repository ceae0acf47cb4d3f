-- One id further.
use Rattle.std.proofs.Common.{length, sym, ◌∙◌, arith}
use Rattle.wdf_model.specs.parts.Requests.{is_arrival}
use Rattle.wdf_request.proofs.Finding.{find_further, find_past}
use Rattle.wdf_posts.proofs.cancels.find_arrival.Goals as goal

pub loop-id-preserved : goal.loop-id-preserved
loop-id-preserved c =
    find_further (is_arrival c.args.requests.now c.args.agent c.args.arrival) c.loop-id.id (length c.args.requests.now.all) (omega arith) (sym c.if-is_arrival.ensures) ∙ c.loop-id.invariant

pub returns : goal.returns
returns c =
    sym (find_past (is_arrival c.args.requests.now c.args.agent c.args.arrival) c.loop-id.id (length c.args.requests.now.all) (omega arith)) ∙ c.loop-id.invariant
