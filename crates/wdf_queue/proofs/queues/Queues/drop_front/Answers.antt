-- The others keep their order.
use Rattle.std.proofs.Common.{◌≡◌, ◌<◌, [], drop, length, length-set, get_or-set_same, refl, ap, arith}
use Rattle.wdf_ilist.specs.Family.{list_at}
use Rattle.wdf_model.specs.parts.Queues.{Queues}
use Rattle.wdf_queue.specs.Queues.{queues_in}
use Rattle.wdf_queue.proofs.Presenting.{list_written}
use Rattle.wdf_queue.proofs.Rising.{marked_drop}
use Rattle.wdf_queue.proofs.queues.Queues.drop_front.Goals as goal

pub invariant_of-self : goal.invariant_of-self
invariant_of-self c =
    let lists = c.self.inside.waiting.lists in
    let q = c.args.q.0 in
    let many : length c.self.inside.dispatch.items ≡ length c.args.self.now.dispatch = ap (λ (Q : Queues). length Q.dispatch) c.self.view_is in
    let known : q < length c.self.inside.dispatch.items = let t = c.requires.there in omega arith in
    let there : q < length lists = let l = c.self.invariant.lists in omega arith in
    record {
      lists = rw (c.pop_front-front.ensures.rest, length-set) c.self.invariant.lists;
      counts = c.self.invariant.counts;
      room = rw c.pop_front-front.ensures.rest c.self.invariant.room;
      marks = c.self.invariant.marks;
      rising = rw c.pop_front-front.ensures.rest (marked_drop c.self.inside.rising.items lists q c.self.invariant.rising there);
      presentable = rw (c.note.ensures, c.is_empty-is_empty.ensures, c.is_free-is_free.ensures, ← c.self.view_is, c.pop_front-front.ensures.rest) (list_written (queues_in c.self.inside) c.self.inside.presentable q (drop 1 (list_at lists q)) _ c.self.invariant.presentable known there (rw (get_or-set_same lists q (drop 1 (list_at lists q)) [] there) refl));
    }
