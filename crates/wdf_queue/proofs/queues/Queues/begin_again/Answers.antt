-- The fields are as long as there are ids, and hold nothing.
use Rattle.std.proofs.Common.{◌≡◌, ◌+◌, length, refl, ap, ◌∙◌, arith}
use Rattle.std.proofs.lemmas.List.{length-replicate}
use Rattle.wdf_ilist.specs.Family.{Family}
use Rattle.wdf_model.specs.parts.Queues.{Queues}
use Rattle.wdf_queue.proofs.Openings.{length-dispatch, opened}
use Rattle.wdf_queue.proofs.Presenting.{none_present}
use Rattle.wdf_queue.proofs.Rising.{marked_empty}
use Rattle.wdf_queue.proofs.queues.Queues.begin_again.Goals as goal

pub write_dispatches-requires : goal.write_dispatches-requires
write_dispatches-requires c =
    let many : length c.self.inside.dispatch.items ≡ 1 + length c.args.plan.now.declared = ap (λ (Q : Queues). length Q.dispatch) c.self.view_is ∙ c.requires in
    omega (arith, c.self.inside.dispatch.ok.0)

pub invariant_of-self : goal.invariant_of-self
invariant_of-self c =
    let many : length c.self.inside.dispatch.items ≡ 1 + length c.args.plan.now.declared = ap (λ (Q : Queues). length Q.dispatch) c.self.view_is ∙ c.requires in
    let long = length-dispatch c.args.plan.now (1 + length c.args.plan.now.declared) refl in
    record {
      lists = rw (c.clear.ensures, c.write_dispatches.ensures, length-replicate, long) (c.self.invariant.lists ∙ many);
      counts = rw (c.zero_counts.ensures, c.write_dispatches.ensures, length-replicate, long) (c.self.invariant.counts ∙ many);
      room = rw c.clear.ensures c.self.invariant.room;
      marks = rw (c.write_dispatches.ensures, long) (c.self.invariant.marks ∙ many);
      rising = rw c.clear.ensures (marked_empty c.self.inside.rising.items (length c.self.inside.waiting.lists));
      presentable = none_present _ (length c.self.inside.waiting.lists) (length c.self.inside.presentable) _ (ap (λ (f : Family). f.lists) c.clear.ensures) c.clear-2.ensures (rw (c.write_dispatches.ensures, long) (rw many at c.self.invariant.presentable.room));
    }

pub returns : goal.returns
returns c =
    let many : length c.self.inside.dispatch.items ≡ 1 + length c.args.plan.now.declared = ap (λ (Q : Queues). length Q.dispatch) c.self.view_is ∙ c.requires in
    opened c.args.plan.now (1 + length c.args.plan.now.declared) _ _ _ refl c.write_dispatches.ensures
    (ap (λ (f : Family). f.lists) c.clear.ensures ∙ rw (c.self.invariant.lists, many) refl) (c.zero_counts.ensures ∙ rw (c.self.invariant.counts, many) refl)
