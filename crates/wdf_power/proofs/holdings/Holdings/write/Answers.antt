-- The counts move with the request that is written.
use Rattle.std.proofs.Common.{is_some, ◌≡◌, ap, sym, refl, ◌∙◌, arith}
use Rattle.wdf_model.specs.Tables.{entry}
use Rattle.wdf_model.specs.parts.Power.{holding_of, no_holding}
use Rattle.wdf_model.proofs.Maps.{put_short}
use Rattle.wdf_maps.proofs.Counting.{counted_put, room_by_entries}
use Rattle.wdf_power.specs.Power.{due_at, resume_of, unsettled_at}
use Rattle.wdf_power.specs.ForQueues.{resuming_queue, unasked_queue}
use Rattle.wdf_power.proofs.ForQueues.{set_put}
use Rattle.wdf_model.specs.declared.entries.Holding.{Holding}
use Rattle.wdf_power.proofs.holdings.Holdings.write.Goals as goal

pub moves-requires : goal.moves-requires
moves-requires c =
    let a = c.self.inside in
    room_by_entries (unsettled_at a.queues.items) a.all.items a.unsettled c.unsettled_at-2.result c.self.invariant.within c.self.invariant.unsettled

pub moves-requires-2 : goal.moves-requires-2
moves-requires-2 c =
    let a = c.self.inside in
    room_by_entries (due_at a.queues.items) a.all.items a.due c.due_at-2.result c.self.invariant.within c.self.invariant.due

pub moves-requires-3 : goal.moves-requires-3
moves-requires-3 c =
    let a = c.self.inside in
    room_by_entries resume_of a.all.items a.resumes c.resume_of-2.result c.self.invariant.within c.self.invariant.resumes

pub moves-requires-4 : goal.moves-requires-4
moves-requires-4 c =
    let a = c.self.inside in
    room_by_entries unasked_queue a.all.items a.unasked c.unasked_queue-2.result c.self.invariant.within c.self.invariant.unasked

pub moves-requires-5 : goal.moves-requires-5
moves-requires-5 c =
    let a = c.self.inside in
    room_by_entries resuming_queue a.all.items a.resuming c.resuming_queue-2.result c.self.invariant.within c.self.invariant.resuming

pub put-requires-2 : goal.put-requires-2
put-requires-2 c = let room = c.self.invariant.resuming_ids.room in omega (arith, c.requires.room)

pub put-requires : goal.put-requires
put-requires c = let room = c.self.invariant.unasked_ids.room in omega (arith, c.requires.room)

pub invariant_of-self : goal.invariant_of-self
invariant_of-self c =
    let a = c.self.inside in
    let s = c.self.invariant in
    let e = c.put_at.ensures.entries in
    let was : c.holding-old.result ≡ entry no_holding a.all.items c.args.r.0 = c.holding-old.ensures ∙ ap (λ P. holding_of P c.args.r.0) (sym c.self.view_is) in
    record {
      room = omega (arith, s.room, c.put_at.ensures.room);
      within = rw e (put_short no_holding a.all.items c.args.r.0 c.args.new _ c.requires.room s.within);
      unsettled =
          rw (e, c.moves.ensures, c.unsettled_at.ensures, c.unsettled_at-2.ensures, c.deref.ensures.value, c.deref-2.ensures.value, was)
          (counted_put (unsettled_at a.queues.items) no_holding a.all.items a.unsettled c.args.r.0 c.args.new refl s.unsettled);
      due =
          rw (e, c.moves-2.ensures, c.due_at.ensures, c.due_at-2.ensures, c.deref-3.ensures.value, c.deref-4.ensures.value, was)
          (counted_put (due_at a.queues.items) no_holding a.all.items a.due c.args.r.0 c.args.new refl s.due);
      resumes =
          rw (e, c.moves-3.ensures, c.resume_of.ensures, c.resume_of-2.ensures, was)
          (counted_put resume_of no_holding a.all.items a.resumes c.args.r.0 c.args.new refl s.resumes);
      unasked =
          rw (e, c.moves-4.ensures, c.unasked_queue.ensures, c.unasked_queue-2.ensures, was)
          (counted_put unasked_queue no_holding a.all.items a.unasked c.args.r.0 c.args.new refl s.unasked);
      unasked_ids = rw (e, c.put.ensures, c.is_unasked.ensures) (set_put (λ (h : Holding). is_some (unasked_queue h)) a.all.items a.unasked_ids c.args.r.0 c.args.new c.requires.room s.unasked_ids);
      resuming =
          rw (e, c.moves-5.ensures, c.resuming_queue.ensures, c.resuming_queue-2.ensures, was)
          (counted_put resuming_queue no_holding a.all.items a.resuming c.args.r.0 c.args.new refl s.resuming);
      resuming_ids = rw (e, c.put-2.ensures) (set_put (λ (h : Holding). h.resume_due) a.all.items a.resuming_ids c.args.r.0 c.args.new c.requires.room s.resuming_ids);
    }
