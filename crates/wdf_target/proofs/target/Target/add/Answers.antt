use Rattle.std.proofs.Common.{ℕ, ◌≡◌, ◌<◌, Bool, true, false, filter, length, None, refl, sym, ap, ◌∙◌, subst, arith}
use Rattle.wdf_model.specs.declared.room.TheConstants.{OBJECTS}
use Rattle.wdf_model.specs.parts.Targets.{Target, new_sending}
use Rattle.wdf_maps.specs.Places.{entry_of}
use Rattle.wdf_maps.proofs.PlacesOfKeys.{rises_with_entry}
use Rattle.wdf_maps.proofs.Passing.{passing_others, passing_with_failing}
use Rattle.wdf_maps.proofs.EntriesById.{absent_short, others_absent}
use Rattle.wdf_target.specs.Finished.{comes_back}
use Rattle.wdf_target.specs.Target.{request_id}
use Rattle.wdf_target.proofs.Sendings.{added}
use Rattle.wdf_target.proofs.target.Target.add.Goals as goal

pub put-requires-clause-room : goal.put-requires-clause-room
put-requires-clause-room c = λ none.
    let short = absent_short request_id OBJECTS c.args.r.0 c.self.inside.sent.entries c.self.invariant.objects c.requires.there none in
    let P : Target → Type 0 = λ t. length t.sent < t.depth in
    let room : length c.self.inside.sent.entries < c.self.inside.depth = subst P (sym c.self.view_is) c.requires.room in
    omega arith

-- what was just sent isn't done
never : (r : ℕ) (forget : Bool) → comes_back (new_sending r forget) ≡ false
never r true = refl
never r false = refl

pub invariant_of-self : goal.invariant_of-self
invariant_of-self c =
    let none : entry_of request_id c.self.inside.sent.entries c.args.r.0 ≡ None = ap (λ t. entry_of request_id t.sent c.args.r.0) c.self.view_is ∙ c.requires.free in
    let as_many : filter comes_back c.put.new.self.entries ≡ filter comes_back c.self.inside.sent.entries =
    ap (filter comes_back) c.put.ensures.entries
    ∙ passing_with_failing request_id comes_back (new_sending c.args.r.0 c.args.forget) c.self.inside.sent.entries (never c.args.r.0 c.args.forget)
    ∙ sym (passing_others request_id comes_back c.args.r.0 c.self.inside.sent.entries)
    ∙ ap (filter comes_back) (others_absent request_id c.args.r.0 c.self.inside.sent.entries none) in
    record {
      objects = rw c.put.ensures.entries (rises_with_entry request_id OBJECTS _ c.self.inside.sent.entries c.requires.there c.self.invariant.objects);
      room = c.put.ensures.room ∙ c.self.invariant.room;
      done = c.self.invariant.done ∙ sym as_many;
      done_room = c.self.invariant.done_room ∙ sym c.put.ensures.room;
    }

pub returns : goal.returns
returns c =
    added c.args.self.now c.args.r.0 c.args.forget c.self.inside.sent.entries c.put.new.self.entries c.self.inside.depth c.self.inside.stopped
    c.self.view_is c.requires.free c.put.ensures.entries
