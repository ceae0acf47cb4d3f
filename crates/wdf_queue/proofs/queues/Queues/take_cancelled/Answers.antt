-- The others keep their order, and so do the other lists.
use Rattle.std.proofs.Common.{ℕ, ◌≡◌, false, List, length, is_some, refl, ap, sym, ◌∙◌}
use Rattle.std.proofs.lemmas.List.{length-map}
use Rattle.wdf_ilist.specs.Family.{is_on_any}
use Rattle.wdf_ilist.proofs.Lists.{none_leaves}
use Rattle.wdf_queue.specs.Queues.{queues_in}
use Rattle.wdf_queue.proofs.Presenting.{cancelled, list_known}
use Rattle.wdf_queue.proofs.Rising.{marked_without}
use Rattle.wdf_queue.proofs.queues.Queues.take_cancelled.Goals as goal

pub returns-in_default-clause-done : goal.returns-in_default-clause-done
returns-in_default-clause-done c =
    let nobody : is_on_any c.args.r.0 c.self.inside.waiting.lists ≡ false = sym c.owner.ensures.any ∙ ap is_some c.in_default.is in
    rw (← c.self.view_is) (ap (λ (lists : List (List ℕ)). record (queues_in c.self.inside) { waiting = lists }) (sym (none_leaves c.args.r.0 c.self.inside.waiting.lists nobody)))

pub note-requires : goal.note-requires
note-requires c =
    list_known c.self.inside.waiting c.self.inside.presentable (length c.self.inside.dispatch.items) c.args.r.0 c.in-Some.q (sym c.owner.ensures.list ∙ c.in-Some.is) c.self.invariant.lists c.self.invariant.presentable.room

pub invariant_of-self : goal.invariant_of-self
invariant_of-self c =
    let s = c.self.inside in
    record {
      lists = rw (c.unlink-list.ensures.gone, length-map) c.self.invariant.lists;
      counts = c.self.invariant.counts;
      room = rw c.unlink-list.ensures.gone c.self.invariant.room;
      marks = c.self.invariant.marks;
      rising = rw c.unlink-list.ensures.gone (marked_without s.rising.items s.waiting.lists c.args.r.0 c.self.invariant.rising);
      presentable = rw (c.note.ensures, c.is_empty-is_empty.ensures, c.is_free-is_free.ensures, ← c.self.view_is, c.unlink-list.ensures.gone)
          (cancelled (queues_in s) s.waiting s.presentable c.in-Some.q c.args.r.0 _ refl c.owner.ensures.apart (sym c.owner.ensures.list ∙ c.in-Some.is) c.self.invariant.presentable c.self.invariant.lists refl);
    }
