-- The hold that goes is counted no more; where there is none, nothing goes.
use Rattle.std.proofs.Common.{◌≡◌, ◌<◌, not, None, Some, List, ap, sym, ◌∙◌, arith}
use Rattle.std.proofs.lemmas.List.Sums.{count_by-le-length, length-filter}
use Rattle.wdf_model.specs.declared.room.TheConstants.{FRAMES}
use Rattle.wdf_model.specs.declared.entries.Held.{Held}
use Rattle.wdf_model.specs.parts.Locks.{hold_of}
use Rattle.wdf_lock.specs.Holds.{is_of}
use Rattle.wdf_lock.specs.Kept.{locks_in}
use Rattle.wdf_lock.proofs.Finding.{none_filtered, some_counted}
use Rattle.wdf_lock.proofs.Keeping.{hold_counted, hold_frame, kept_released, nothing_else}
use Rattle.wdf_lock.proofs.locks.Locks.release.Goals as goal

pub drop_hold-requires : goal.drop_hold-requires
drop_hold-requires c =
    let a = c.self.inside in
    let found : hold_of (locks_in a) c.args.lock ≡ Some c.in-Some.held = rw (← c.self.view_is) at (sym c.hold_of.ensures.value ∙ c.in-Some.is) in
    let some = some_counted (is_of c.args.lock) a.held.items c.in-Some.held found in
    let once = c.self.invariant.kept.once c.args.lock in
    omega arith

pub uncount_call-requires-clause-room : goal.uncount_call-requires-clause-room
uncount_call-requires-clause-room c =
    let a = c.self.inside in
    let found : hold_of (locks_in a) c.args.lock ≡ Some c.in-Some.held = rw (← c.self.view_is) at (sym c.hold_of.ensures.value ∙ c.in-Some.is) in
    let within : c.in-Some.held.frame.0 < FRAMES = hold_frame (locks_in a) a.holders a.calls.items c.args.lock c.self.invariant.kept c.in-Some.held found in
    let room = c.self.invariant.calls_room in
    omega arith

pub uncount_call-requires-clause-counted : goal.uncount_call-requires-clause-counted
uncount_call-requires-clause-counted c =
    let a = c.self.inside in
    let found : hold_of (locks_in a) c.args.lock ≡ Some c.in-Some.held = rw (← c.self.view_is) at (sym c.hold_of.ensures.value ∙ c.in-Some.is) in
    hold_counted (locks_in a) a.holders a.calls.items c.args.lock c.self.invariant.kept c.in-Some.held found

pub invariant_of-self : goal.invariant_of-self
invariant_of-self c =
    let a = c.self.inside in
    let h = c.self.invariant in
    let found : hold_of (locks_in a) c.args.lock ≡ Some c.in-Some.held = rw (← c.self.view_is) at (sym c.hold_of.ensures.value ∙ c.in-Some.is) in
    let many = length-filter (λ x. not (is_of c.args.lock x)) a.held.items in
    let fewer = count_by-le-length (λ x. not (is_of c.args.lock x)) a.held.items in
    record {
      held_room = omega arith;
      held_few = rw c.drop_hold.ensures.items (omega arith);
      calls_room = omega arith;
      kept = rw (c.drop_hold.ensures.items, c.set.ensures, c.uncount_call.ensures.counted)
          (kept_released (locks_in a) a.holders a.calls.items c.args.lock c.in-Some.held found h.kept);
    }

pub returns-in_default : goal.returns-in_default
returns-in_default c =
    let L = c.args.self.now in
    let none : hold_of L c.args.lock ≡ None = nothing_else _ _ c.hold_of.ensures.value c.in_default.not-Some in
    ap (λ (held : List Held). record { held = held }) (sym (none_filtered (is_of c.args.lock) L.held none))
