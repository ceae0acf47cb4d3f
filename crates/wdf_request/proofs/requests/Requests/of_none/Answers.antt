-- Nothing is kept of no request.
use Rattle.std.proofs.Common.{is_some, refl, lit≤, arith}
use Rattle.wdf_base.specs.Places.{is_closing, is_due, is_sent}
use Rattle.wdf_model.specs.declared.entries.Request.{Request}
use Rattle.wdf_request.specs.Keys.{due_queue, returning_queue, sent_target, unfinished_device}
use Rattle.wdf_maps.proofs.Counting.{none_counted}
use Rattle.wdf_request.proofs.Members.{empty_set}
use Rattle.wdf_request.proofs.Noting.{none_noted}
use Rattle.wdf_request.proofs.requests.Requests.of_none.Goals as goal

pub invariant_of-result : goal.invariant_of-result
invariant_of-result c =
    let none = c.requires.entries in
    let counts = c.requires.counts in
    let sets = c.requires.sets in
    record {
      entries = rw none (omega arith);
      room = c.requires.room;
      returning = rw (none, counts.returning) (none_counted (λ (r : Request). returning_queue r.place));
      sent = rw (none, counts.sent) (none_counted (λ (r : Request). sent_target r.place));
      unfinished = rw (none, counts.unfinished) (none_counted unfinished_device);
      open_count = rw none refl;
      closing = rw none (empty_set (λ (r : Request). is_closing r.place) 204800 _ refl (lit≤ tt) sets.closing);
      due = rw none (empty_set (λ (r : Request). is_due r.info.mark) 204800 _ refl (lit≤ tt) sets.due);
      sendings = rw none (empty_set (λ (r : Request). is_sent r.place) 204800 _ refl (lit≤ tt) sets.sendings);
      returns = rw none (empty_set (λ (r : Request). is_some (returning_queue r.place)) 204800 _ refl (lit≤ tt) sets.returns);
      due_held = rw (none, counts.due_held) (none_counted due_queue);
      due_sent = rw none refl;
      noted = rw none (none_noted _);
    }
