-- One object more.
use Rattle.std.proofs.Common.{refl, ◌≡◌, ◌+◌, ◌∙◌, arith}
use Rattle.std.proofs.lemmas.List.FromFn.{map-range_with_len_more}
use Rattle.wdf_model.specs.Plans.{queue_of}
use Rattle.wdf_model.specs.parts.Queues.{opening_dispatch}
use Rattle.wdf_queue.proofs.dispatch.write_dispatches.Goals as goal

pub push_reserved-requires : goal.push_reserved-requires
push_reserved-requires c = omega (arith, c.clear.ensures.len, c.clear.ensures.capacity)

pub loop-k-init : goal.loop-k-init
loop-k-init c = record {
  those = c.push_reserved.ensures.items ∙ rw c.clear.ensures.items refl;
  as_many = omega (arith, c.push_reserved.ensures.len, c.clear.ensures.len);
  room = rw (c.push_reserved.ensures.capacity, c.clear.ensures.capacity) c.requires;
}

pub push_reserved-requires-in-loop-k : goal.push_reserved-requires-in-loop-k
push_reserved-requires-in-loop-k c = omega (arith, c.loop-k.invariant.as_many, c.loop-k.invariant.room)

pub loop-k-preserved : goal.loop-k-preserved
loop-k-preserved c =
    let id = c.loop-k.k + 1 in
    let here : 0 + id ≡ id = omega arith in
    record {
      those = rw (c.push_reserved-in-loop-k.ensures.items, c.loop-k.invariant.those, map-range_with_len_more (λ q. opening_dispatch (queue_of c.args.plan.now q)) 0 id id here, c.declared.ensures, ← c.opening_dispatch.ensures) refl;
      as_many = omega (arith, c.push_reserved-in-loop-k.ensures.len, c.loop-k.invariant.as_many);
      room = rw c.push_reserved-in-loop-k.ensures.capacity c.loop-k.invariant.room;
    }
