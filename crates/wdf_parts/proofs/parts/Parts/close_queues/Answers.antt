-- One queue more is closed.
use Rattle.std.proofs.Common.{◌≡◌, ◌≤◌, ◌∷◌, ap, fold, length, subst, sym, ◌∙◌}
use Rattle.std.specs.List.{All}
use Rattle.std.proofs.lemmas.List.Elements.{All-tail}
use Rattle.std.proofs.lemmas.Map.Iter.{rest_more}
use Rattle.wdf_base.specs.declared.ids.ObjectId.{ObjectId}
use Rattle.wdf_model.specs.State.{State}
use Rattle.wdf_model.specs.rules.Deeds.{close_queue}
use Rattle.wdf_parts.proofs.parts.Parts.close_queues.Goals as goal

pub loop-q-preserved : goal.loop-q-preserved
loop-q-preserved g c =
    let more : c.loop-q.q-iterator ≡ c.in-Some.q.0 ∷ c.next.new.self = rest_more (λ (o : ObjectId). o.0) _ _ _ c.in-Some.q c.in-Some.is c.next.ensures.steps in
    record {
      size = c.close_queue.ensures.size ∙ c.loop-q.invariant.size;
      declared = All-tail (λ q. q ≤ length c.args.plan.now.declared) c.in-Some.q.0 c.next.new.self (subst (All (λ q. q ≤ length c.args.plan.now.declared)) more c.loop-q.invariant.declared);
      closed = ap (λ (S : State _). fold close_queue S c.next.new.self) c.close_queue.ensures.done ∙ sym (ap (fold close_queue c.loop-q.self) more) ∙ c.loop-q.invariant.closed;
    }
