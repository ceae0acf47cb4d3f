-- Nothing is kept of no request.
use Rattle.std.proofs.Common.{is_some, length, refl, arith}
use Rattle.wdf_base.specs.Places.{is_closing, is_due, is_sent}
use Rattle.wdf_model.specs.declared.entries.Request.{Request}
use Rattle.wdf_request.specs.Keys.{due_queue, returning_queue, sent_target, unfinished_device}
use Rattle.wdf_maps.proofs.Counting.{none_counted}
use Rattle.wdf_request.proofs.Members.{empty_set}
use Rattle.wdf_request.proofs.Noting.{none_noted}
use Rattle.wdf_request.proofs.requests.Requests.begin_again.Goals as goal

pub invariant_of-self : goal.invariant_of-self
invariant_of-self c =
    let s = c.self.inside in
    let none = c.clear.ensures.items in
    record {
      entries = rw none (omega arith);
      room = rw c.clear.ensures.capacity c.self.invariant.room;
      returning = rw (none, c.clear-2.ensures) (none_counted (λ (r : Request). returning_queue r.place));
      sent = rw (none, c.clear-3.ensures) (none_counted (λ (r : Request). sent_target r.place));
      unfinished = rw (none, c.clear-4.ensures) (none_counted unfinished_device);
      open_count = rw none refl;
      closing = rw none (empty_set (λ (r : Request). is_closing r.place) (length s.closing) _ refl c.self.invariant.closing.room c.clear-5.ensures);
      due = rw none (empty_set (λ (r : Request). is_due r.info.mark) (length s.due) _ refl c.self.invariant.due.room c.clear-6.ensures);
      sendings = rw none (empty_set (λ (r : Request). is_sent r.place) (length s.sendings) _ refl c.self.invariant.sendings.room c.clear-7.ensures);
      returns = rw none (empty_set (λ (r : Request). is_some (returning_queue r.place)) (length s.returns) _ refl c.self.invariant.returns.room c.clear-8.ensures);
      due_held = rw (none, c.clear-9.ensures) (none_counted due_queue);
      due_sent = rw none refl;
      noted = rw none (none_noted _);
    }

pub returns : goal.returns
returns c = rw c.clear.ensures.items refl
