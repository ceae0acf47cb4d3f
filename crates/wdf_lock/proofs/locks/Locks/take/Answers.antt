-- The new hold is the lock's, and is counted.
use Rattle.std.proofs.Common.{◌≡◌, ◌<◌, ◌∷◌, [], length, true, arith, length-append}
use Rattle.wdf_model.specs.declared.room.TheConstants.{EVENTS}
use Rattle.wdf_model.specs.parts.Locks.{is_free_lock}
use Rattle.wdf_lock.specs.Kept.{locks_in}
use Rattle.wdf_lock.proofs.Keeping.{kept_take}
use Rattle.wdf_lock.proofs.locks.Locks.take.Goals as goal

pub invariant_of-self : goal.invariant_of-self
invariant_of-self c =
    let a = c.self.inside in
    let h = c.self.invariant in
    let free : is_free_lock (locks_in a) c.args.lock ≡ true = rw (← c.self.view_is) at c.requires.free in
    let few : length a.held.items < EVENTS = rw (← c.self.view_is) at c.requires.room in
    record {
      held_room = omega arith;
      held_few = rw c.push_reserved.ensures.items (let more = length-append a.held.items (record { lock = c.args.lock; frame = c.args.f; by_call = c.args.by_call } ∷ []) in omega arith);
      calls_room = omega arith;
      kept = rw (c.push_reserved.ensures.items, c.set.ensures, c.count_call.ensures.counted)
          (kept_take (locks_in a) a.holders a.calls.items c.args.lock c.args.f.0 c.args.by_call free c.requires.frame h.kept);
    }
