-- The fields are as long as there are ids, and hold nothing.
use Rattle.std.proofs.Common.{◌≡◌, ◌+◌, ◌*◌, length, refl, ap, arith}
use Rattle.std.specs.Int.{div_ceil}
use Rattle.std.proofs.lemmas.List.{length-replicate}
use Rattle.wdf_ilist.specs.Family.{Family}
use Rattle.wdf_queue.proofs.Openings.{length-dispatch, opened}
use Rattle.wdf_queue.proofs.Presenting.{none_present, rounded_up}
use Rattle.wdf_queue.proofs.Rising.{marked_empty}
use Rattle.wdf_queue.proofs.queues.Queues.make.Goals as goal

pub invariant_of-result : goal.invariant_of-result
invariant_of-result c =
    let ids = 1 + c.declared_len-ids.result in
    let n : ids ≡ 1 + length c.args.plan.now.declared = omega arith in
    let long = length-dispatch c.args.plan.now ids n in
    record {
      lists = rw (c.in_ok-make.ensures, c.in_ok-opening_dispatches.ensures, length-replicate, long) refl;
      counts = rw (c.in_ok-no_counts.ensures, c.in_ok-opening_dispatches.ensures, length-replicate, long) refl;
      room = rw c.in_ok-make.ensures refl;
      marks = rw (c.in_ok-all_rising.ensures, c.in_ok-opening_dispatches.ensures, length-replicate, long) refl;
      rising = rw c.in_ok-make.ensures (marked_empty c.in_ok-all_rising.field-0.items ids);
      presentable = none_present _ ids (4096 * div_ceil ids 4096) _ (ap (λ (f : Family). f.lists) c.in_ok-make.ensures) c.in_ok-make-2.ensures (rw (c.in_ok-opening_dispatches.ensures, long) (rounded_up ids ids (omega arith)));
    }

pub returns : goal.returns
returns c =
    let ids = 1 + c.declared_len-ids.result in
    let n : ids ≡ 1 + length c.args.plan.now.declared = omega arith in
    opened c.args.plan.now ids _ _ _ n c.in_ok-opening_dispatches.ensures (ap (λ (f : Family). f.lists) c.in_ok-make.ensures) c.in_ok-no_counts.ensures
