use Rattle.std.proofs.Common.{if◌then◌else◌, ℕ, ◌≡◌, true, filter, length, None, Some, is_some, refl, sym, ap, ◌∙◌, subst, arith}
use Rattle.wdf_model.specs.declared.entries.Sending.{Sending}
use Rattle.wdf_model.specs.declared.room.TheConstants.{OBJECTS}
use Rattle.wdf_model.specs.parts.Targets.{without_sending}
use Rattle.wdf_maps.specs.Places.{entry_of, others, with_entry}
use Rattle.wdf_maps.proofs.Passing.{passing_fewer, passing_with_passing}
use Rattle.wdf_maps.proofs.PlacesOfKeys.{rises_with_entry}
use Rattle.wdf_maps.proofs.EntriesById.{entry_key, entry_below}
use Rattle.wdf_target.specs.Finished.{comes_back}
use Rattle.wdf_target.specs.Target.{request_id}
use Rattle.wdf_target.proofs.Sendings.{done_absent, finished_kept, finished_forgotten}
use Rattle.wdf_target.proofs.target.Target.finish.Goals as goal

pub put-requires-clause-room : goal.put-requires-clause-room
put-requires-clause-room c = λ none.
    let there : entry_of request_id c.self.inside.sent.entries c.args.r.0 ≡ Some c.in-Some.sending = sym c.get.ensures ∙ c.in-Some.is in
    let same = entry_key request_id c.args.r.0 c.self.inside.sent.entries c.in-Some.sending there in
    let P : ℕ → Type 0 = λ n. entry_of request_id c.self.inside.sent.entries n ≡ None in
    let gone = subst P same none in
    let z : ⊥ = cc in absurd z

pub put-requires-2-clause-room : goal.put-requires-2-clause-room
put-requires-2-clause-room c = λ none.
    let there : entry_of request_id c.self.inside.sent.entries c.args.r.0 ≡ Some c.in-Some.sending = sym c.get.ensures ∙ c.in-Some.is in
    let same = entry_key request_id c.args.r.0 c.self.inside.sent.entries c.in-Some.sending there in
    let P : ℕ → Type 0 = λ n. entry_of request_id c.self.inside.done.entries n ≡ None in
    let gone : entry_of request_id (filter comes_back c.self.inside.sent.entries) c.args.r.0 ≡ None = ap (λ xs. entry_of request_id xs c.args.r.0) (sym c.self.invariant.done) ∙ subst P same none in
    let fewer = passing_fewer request_id comes_back c.args.r.0 c.self.inside.sent.entries c.in-Some.sending there gone in
    let as_many = ap length c.self.invariant.done in
    omega (arith, fewer, as_many, c.len-within.ensures.within, c.self.invariant.done_room)

pub invariant_of-self : goal.invariant_of-self
invariant_of-self c =
    let there : entry_of request_id c.self.inside.sent.entries c.args.r.0 ≡ Some c.in-Some.sending = sym c.get.ensures ∙ c.in-Some.is in
    let same = entry_key request_id c.args.r.0 c.self.inside.sent.entries c.in-Some.sending there in
    let below = entry_below request_id 0 OBJECTS c.args.r.0 c.self.inside.sent.entries c.in-Some.sending c.self.invariant.objects there in
    let finished : Sending = record c.in-Some.sending { outcome = Some c.args.status } in
    let on : comes_back finished ≡ true = ap (λ f. is_some (if f then None else Some c.args.status)) c.if-sending.false in
    record {
      objects = rw c.put.ensures.entries (rises_with_entry request_id OBJECTS finished c.self.inside.sent.entries (omega arith) c.self.invariant.objects);
      room = c.put.ensures.room ∙ c.self.invariant.room;
      done = c.put-2.ensures.entries
          ∙ ap (with_entry request_id finished) c.self.invariant.done
          ∙ sym (ap (filter comes_back) c.put.ensures.entries ∙ passing_with_passing request_id comes_back OBJECTS finished c.self.inside.sent.entries c.self.invariant.objects on);
      done_room = c.put-2.ensures.room ∙ c.self.invariant.done_room ∙ sym c.put.ensures.room;
    }

pub returns-then-sending : goal.returns-then-sending
returns-then-sending c =
    let there : entry_of request_id c.self.inside.sent.entries c.args.r.0 ≡ Some c.in-Some.sending = sym c.get.ensures ∙ c.in-Some.is in
    let both = finished_forgotten c.args.self.now OBJECTS c.args.r.0 c.args.status c.self.inside.sent.entries (others request_id c.args.r.0 c.self.inside.sent.entries) c.self.inside.depth c.self.inside.stopped
    c.in-Some.sending c.self.view_is c.self.invariant.objects there c.if-sending.true refl in
    let left = c.remove.ensures ∙ ap (without_sending c.args.r.0) (sym c.self.view_is) in
    record { done = left ∙ both.0; it = ap (λ t. is_some (entry_of request_id t.sent c.args.r.0)) left ∙ both.1 }

pub returns : goal.returns
returns c =
    let there : entry_of request_id c.self.inside.sent.entries c.args.r.0 ≡ Some c.in-Some.sending = sym c.get.ensures ∙ c.in-Some.is in
    let both = finished_kept c.args.self.now OBJECTS c.args.r.0 c.args.status c.self.inside.sent.entries c.put.new.self.entries c.self.inside.depth c.self.inside.stopped c.in-Some.sending
    c.self.view_is c.self.invariant.objects there c.if-sending.false c.put.ensures.entries in
    record { done = both.0; it = both.1 }

pub returns-in_default-clause-done : goal.returns-in_default-clause-done
returns-in_default-clause-done c =
    let none : entry_of request_id c.args.self.now.sent c.args.r.0 ≡ None = ap (λ t. entry_of request_id t.sent c.args.r.0) (sym c.self.view_is) ∙ (sym c.get.ensures ∙ c.in_default.is) in
    sym (done_absent c.args.r.0 c.args.status c.args.self.now none)
