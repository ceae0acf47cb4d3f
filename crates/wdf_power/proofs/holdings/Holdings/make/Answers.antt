-- At first nothing is held and nothing is counted.
use Rattle.std.proofs.Common.{is_some, lit≤, refl, arith}
use Rattle.wdf_maps.proofs.Counting.{none_counted}
use Rattle.wdf_power.specs.Power.{due_at, resume_of, unsettled_at}
use Rattle.wdf_power.specs.ForQueues.{resuming_queue, unasked_queue}
use Rattle.wdf_power.proofs.ForQueues.{empty_set}
use Rattle.wdf_model.specs.declared.entries.Holding.{Holding}
use Rattle.wdf_power.proofs.holdings.Holdings.make.Goals as goal

pub invariant_of-result : goal.invariant_of-result
invariant_of-result c =
    let qs = c.in_ok-opening_queues.field-0.items in
    let empty = c.in_ok-with_capacity.ensures.items in
    record {
      room = omega (arith, c.in_ok-with_capacity.ensures.exact);
      within = rw empty (omega arith);
      unsettled = rw (empty, c.in_ok-make.ensures) (none_counted (unsettled_at qs));
      due = rw (empty, c.in_ok-make-2.ensures) (none_counted (due_at qs));
      resumes = rw (empty, c.in_ok-make-3.ensures) (none_counted resume_of);
      unasked = rw (empty, c.in_ok-make-4.ensures) (none_counted unasked_queue);
      unasked_ids = rw empty (empty_set (λ (h : Holding). is_some (unasked_queue h)) 204800 _ refl (lit≤ tt) c.in_ok-make-6.ensures);
      resuming = rw (empty, c.in_ok-make-5.ensures) (none_counted resuming_queue);
      resuming_ids = rw empty (empty_set (λ (h : Holding). h.resume_due) 204800 _ refl (lit≤ tt) c.in_ok-make-7.ensures);
    }

pub returns : goal.returns
returns c = rw (c.in_ok-opening_queues.ensures, c.in_ok-with_capacity.ensures.items) refl
