-- Nothing is held and nothing is counted, as at first.
use Rattle.std.proofs.Common.{is_some, ◌≡◌, ◌+◌, length, ap, refl, ◌∙◌, arith}
use Rattle.wdf_maps.proofs.Counting.{none_counted}
use Rattle.wdf_model.specs.parts.Power.{Power}
use Rattle.wdf_power.specs.Power.{due_at, resume_of, unsettled_at}
use Rattle.wdf_power.specs.ForQueues.{resuming_queue, unasked_queue}
use Rattle.wdf_power.proofs.ForQueues.{empty_set}
use Rattle.wdf_model.specs.declared.entries.Holding.{Holding}
use Rattle.wdf_power.proofs.holdings.Holdings.begin_again.Goals as goal

pub write_queues-requires : goal.write_queues-requires
write_queues-requires c =
    let many : length c.self.inside.queues.items ≡ 1 + length c.args.plan.now.declared = ap (λ (P : Power). length P.queues) c.self.view_is ∙ c.requires in
    omega (arith, c.self.inside.queues.ok.0)

pub invariant_of-self : goal.invariant_of-self
invariant_of-self c =
    let qs = c.write_queues.new.queues.items in
    let empty = c.clear.ensures.items in
    record {
      room = rw c.clear.ensures.capacity c.self.invariant.room;
      within = rw empty (omega arith);
      unsettled = rw (empty, c.clear-2.ensures) (none_counted (unsettled_at qs));
      due = rw (empty, c.clear-3.ensures) (none_counted (due_at qs));
      resumes = rw (empty, c.clear-4.ensures) (none_counted resume_of);
      unasked = rw (empty, c.clear-5.ensures) (none_counted unasked_queue);
      unasked_ids = rw empty (empty_set (λ (h : Holding). is_some (unasked_queue h)) (length c.self.inside.unasked_ids) _ refl c.self.invariant.unasked_ids.room c.clear-6.ensures);
      resuming = rw (empty, c.clear-7.ensures) (none_counted resuming_queue);
      resuming_ids = rw empty (empty_set (λ (h : Holding). h.resume_due) (length c.self.inside.resuming_ids) _ refl c.self.invariant.resuming_ids.room c.clear-8.ensures);
    }

pub returns : goal.returns
returns c = rw (c.write_queues.ensures, c.clear.ensures.items) refl
