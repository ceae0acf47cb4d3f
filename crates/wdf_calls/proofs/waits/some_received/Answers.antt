-- One waiting request more is looked at.
use Rattle.std.proofs.Common.{◌≡◌, ◌+◌, true, false, Some, None, slice_get, option_map, sym, ap, ◌∙◌}
use Rattle.wdf_base.specs.declared.ids.ObjectId.{ObjectId}
use Rattle.wdf_base.specs.declared.object.RequestInfo.{RequestInfo}
use Rattle.wdf_model.specs.parts.Queues.{Queues, waiting_in}
use Rattle.wdf_model.specs.parts.Requests.{Requests, info_of}
use Rattle.wdf_calls.proofs.Walks.{walk_ends, walk_finds, walk_goes_on}
use Rattle.wdf_calls.proofs.waits.some_received.Goals as goal

pub returns-then-info : goal.returns-then-info
returns-then-info g c =
    let at : slice_get (waiting_in c.args.parts.now.queues c.args.q.0) c.loop.counter ≡ Some c.in-Some.r.0 = sym c.loop.invariant.next ∙ ap (option_map (λ (r : ObjectId). r.0)) c.in-Some.is in
    let here = ap (λ (R : Requests). (info_of R c.in-Some.r.0).received) c.requests.ensures in
    let passes : (info_of c.args.parts.now.requests c.in-Some.r.0).received ≡ true = sym here ∙ ap (λ (i : RequestInfo). i.received) (sym c.info.ensures) ∙ c.if-info.true in
    walk_finds (λ r. (info_of c.args.parts.now.requests r).received) (waiting_in c.args.parts.now.queues c.args.q.0) c.loop.counter c.in-Some.r.0 at passes c.loop.invariant.left

pub returns-in-None : goal.returns-in-None
returns-in-None g c =
    let at : slice_get (waiting_in c.args.parts.now.queues c.args.q.0) c.loop.counter ≡ None = sym c.loop.invariant.next ∙ ap (option_map (λ (r : ObjectId). r.0)) c.in-None.is in
    walk_ends (λ r. (info_of c.args.parts.now.requests r).received) (waiting_in c.args.parts.now.queues c.args.q.0) c.loop.counter at c.loop.invariant.left

pub loop-preserved : goal.loop-preserved
loop-preserved g c =
    let at : slice_get (waiting_in c.args.parts.now.queues c.args.q.0) c.loop.counter ≡ Some c.in-Some.r.0 = sym c.loop.invariant.next ∙ ap (option_map (λ (r : ObjectId). r.0)) c.in-Some.is in
    let here = ap (λ (R : Requests). (info_of R c.in-Some.r.0).received) c.requests.ensures in
    let fails : (info_of c.args.parts.now.requests c.in-Some.r.0).received ≡ false = sym here ∙ ap (λ (i : RequestInfo). i.received) (sym c.info.ensures) ∙ c.if-info.false in
    let same = c.queues-in-Some.ensures in
    let step = c.next_waiting-next.ensures.after c.args.q.0 c.loop.counter (ap (λ (Q : Queues). slice_get (waiting_in Q c.args.q.0) c.loop.counter) same ∙ at) in
    record {
      next = step ∙ ap (λ (Q : Queues). slice_get (waiting_in Q c.args.q.0) (c.loop.counter + 1)) same;
      left = walk_goes_on (λ r. (info_of c.args.parts.now.requests r).received) (waiting_in c.args.parts.now.queues c.args.q.0) c.loop.counter c.in-Some.r.0 at fails c.loop.invariant.left;
    }
