-- What is kept stays right.
use Rattle.std.proofs.Common.{◌≡◌, ◌<◌, is_some, length, refl, ap, length-set, ◌∙◌, arith}
use Rattle.wdf_base.specs.Places.{is_closing, is_due, is_sent}
use Rattle.wdf_model.specs.declared.entries.Request.{Request}
use Rattle.wdf_model.specs.declared.room.TheConstants.{OBJECTS}
use Rattle.wdf_model.specs.Tables.{entry}
use Rattle.wdf_model.specs.parts.Requests.{Requests, no_request}
use Rattle.wdf_model.specs.rules.Ready.{is_open_request}
use Rattle.wdf_model.proofs.Maps.{put_short, put_within}
use Rattle.wdf_request.specs.Keys.{due_queue, is_due_sent, returning_queue, sent_target, unfinished_device}
use Rattle.wdf_maps.proofs.Counting.{count_put, counted_put}
use Rattle.wdf_request.proofs.Members.{set_put}
use Rattle.wdf_request.proofs.Noting.{noted_put}
use Rattle.wdf_request.proofs.requests.Requests.write.Goals as goal

pub invariant_of-self : goal.invariant_of-self
invariant_of-self c =
    let all = c.self.inside.all.items in
    let r = c.args.r.0 in
    let kept = c.self.invariant in
    let long : length all ≡ length c.args.self.now.all = ap (λ (R : Requests). length R.all) c.self.view_is in
    let few = kept.entries in
    let h : r < OBJECTS = omega (arith, c.requires.there) in
    let old : c.entry_at-old.result ≡ entry no_request all r = rw (c.entry_at-old.ensures, c.deref.ensures.value) refl in
    let put = c.put_at.ensures.entries in
    let open_there = count_put is_open_request no_request all r c.args.request refl in
    let sent_there = count_put is_due_sent no_request all r c.args.request refl in
    record {
      entries = rw put (put_short no_request all r c.args.request OBJECTS h few);
      room = omega (arith, c.put_at.ensures.room, kept.room);
      returning =
          rw (put, c.moves.ensures, c.returning_queue.ensures, c.returning_queue-2.ensures, old)
          (counted_put (λ (x : Request). returning_queue x.place) no_request all c.self.inside.returning r c.args.request refl kept.returning);
      sent =
          rw (put, c.moves-2.ensures, c.sent_target.ensures, c.sent_target-2.ensures, old)
          (counted_put (λ (x : Request). sent_target x.place) no_request all c.self.inside.sent r c.args.request refl kept.sent);
      unfinished =
          rw (put, c.moves-3.ensures, c.unfinished_device.ensures, c.unfinished_device-2.ensures, old)
          (counted_put unfinished_device no_request all c.self.inside.unfinished r c.args.request refl kept.unfinished);
      open_count = rw (put, c.open_flag.ensures, c.open_flag-2.ensures, old, kept.open_count) (omega arith);
      closing = rw (put, c.put.ensures, c.is_closing.ensures) (set_put (λ (x : Request). is_closing x.place) all c.self.inside.closing r c.args.request h kept.closing);
      due = rw (put, c.put-2.ensures, c.is_due.ensures) (set_put (λ (x : Request). is_due x.info.mark) all c.self.inside.due r c.args.request h kept.due);
      sendings = rw (put, c.put-3.ensures, c.is_sent.ensures) (set_put (λ (x : Request). is_sent x.place) all c.self.inside.sendings r c.args.request h kept.sendings);
      returns =
          rw (put, c.put-4.ensures, c.is_back.ensures)
          (set_put (λ (x : Request). is_some (returning_queue x.place)) all c.self.inside.returns r c.args.request h kept.returns);
      due_held =
          rw (put, c.moves-4.ensures, c.due_queue.ensures, c.due_queue-2.ensures, old)
          (counted_put due_queue no_request all c.self.inside.due_held r c.args.request refl kept.due_held);
      due_sent = rw (put, c.due_sent_flag.ensures, c.due_sent_flag-2.ensures, old, kept.due_sent) (omega arith);
      noted = rw (put, c.note.ensures) (noted_put all c.self.inside.arrivals r c.args.request kept.noted);
    }

pub overflow_sub-self : goal.overflow_sub-self
overflow_sub-self c =
    let all = c.self.inside.all.items in
    let r = c.args.r.0 in
    let old : c.entry_at-old.result ≡ entry no_request all r = rw (c.entry_at-old.ensures, c.deref.ensures.value) refl in
    let open_there = count_put is_open_request no_request all r c.args.request refl in
    rw (c.open_flag.ensures, c.open_flag-2.ensures, old, c.self.invariant.open_count) (omega arith)

pub returns-clause-size : goal.returns-clause-size
returns-clause-size c = λ there.
    let all = c.self.inside.all.items in
    let long : length all ≡ length c.args.self.now.all = ap (λ (R : Requests). length R.all) c.self.view_is in
    let h : c.args.r.0 < length all = omega arith in
    rw (c.put_at.ensures.entries, put_within no_request all c.args.r.0 c.args.request h) (length-set all c.args.r.0 c.args.request ∙ long)

pub overflow_sub-self-2 : goal.overflow_sub-self-2
overflow_sub-self-2 c =
    let all = c.self.inside.all.items in
    let r = c.args.r.0 in
    let old : c.entry_at-old.result ≡ entry no_request all r = rw (c.entry_at-old.ensures, c.deref.ensures.value) refl in
    let sent_there = count_put is_due_sent no_request all r c.args.request refl in
    rw (c.due_sent_flag.ensures, c.due_sent_flag-2.ensures, old, c.self.invariant.due_sent) (omega arith)
