-- What is asked for is the first of those that come back from the id at that place on.
use Rattle.std.proofs.Common.{◌≡◌, Some, filter, length, slice_get, sym, ap, ◌∙◌, subst, arith}
use Rattle.wdf_model.specs.declared.room.TheConstants.{OBJECTS}
use Rattle.wdf_model.specs.parts.Targets.{Target}
use Rattle.wdf_maps.specs.Places.{SplitsAt}
use Rattle.wdf_sets.specs.Nexts.{IsNext, NoneFrom}
use Rattle.wdf_target.specs.Finished.{comes_back, done_at}
use Rattle.wdf_target.specs.Target.{request_id, target_in}
use Rattle.wdf_target.proofs.Nexts.{next_is_done, none_after}
use Rattle.wdf_target.proofs.target.Target.next_done.Goals as goal

pub returns-then-lesser-len : goal.returns-then-lesser-len
returns-then-lesser-len c =
    let P : Target → Type 0 = λ t. NoneFrom (done_at t) c.args.from (length t.sent) in
    let split : SplitsAt request_id c.at.result.request.0 (filter comes_back c.self.inside.sent.entries) c.before-lesser.result =
    subst (λ xs. SplitsAt request_id c.at.result.request.0 xs c.before-lesser.result) c.self.invariant.done c.before-lesser.ensures in
    let many = ap length c.self.invariant.done in
    subst P c.self.view_is
    (none_after (target_in c.self.inside) OBJECTS c.self.invariant.objects c.args.from c.at.result c.at.ensures c.before-lesser.result split (omega (arith, many, c.len-2.ensures.length, c.if-lesser-len.true)))

pub returns : goal.returns
returns c =
    let P : Target → Type 0 = λ t. IsNext (done_at t) c.args.from (length t.sent) c.before-place.result in
    let split : SplitsAt request_id c.at.result.request.0 (filter comes_back c.self.inside.sent.entries) c.before-lesser.result =
    subst (λ xs. SplitsAt request_id c.at.result.request.0 xs c.before-lesser.result) c.self.invariant.done c.before-lesser.ensures in
    let there : slice_get (filter comes_back c.self.inside.sent.entries) c.before-lesser.result ≡ Some c.at-2.result = ap (λ xs. slice_get xs c.before-lesser.result) (sym c.self.invariant.done) ∙ c.at-2.ensures in
    subst P c.self.view_is
    (next_is_done (target_in c.self.inside) OBJECTS c.self.invariant.objects c.args.from c.at.result c.at.ensures c.before-lesser.result split c.at-2.result there c.before-place.result c.before-place.ensures)
