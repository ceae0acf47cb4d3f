-- The top frame is among the parked ones.
use Rattle.std.proofs.Common.{◌≡◌, [], length, Some, None, refl, ap, sym, ◌∙◌, arith}
use Rattle.std.specs.Option.{option_map}
use Rattle.wdf_base.specs.declared.ids.ObjectId.{ObjectId}
use Rattle.wdf_model.specs.declared.entries.Running.{Running}
use Rattle.wdf_model.specs.Tables.{entry, first_of_list}
use Rattle.wdf_model.specs.parts.Cpus.{Cpus, frame_of, top}
use Rattle.wdf_cpu.specs.Kept.{cpus_in}
use Rattle.wdf_cpu.specs.ParkedFor.{lock_key}
use Rattle.wdf_cpu.proofs.Keeping.{empty_stays, kept_park, nothing_else, park_is}
use Rattle.wdf_cpu.proofs.Live.{room_to_park, top_not_parked}
use Rattle.wdf_cpu.proofs.Numbers.{in_order_is}
use Rattle.wdf_cpu.proofs.Parking.{parked_fits, parking_parked}
use Rattle.wdf_cpu.proofs.Swapping.{none_left, swapped_by}
use Rattle.wdf_cpu.proofs.Ticks.{spending_parked}
use Rattle.wdf_cpu.proofs.cpus.Cpus.park.Goals as goal

pub moves-requires : goal.moves-requires
moves-requires c = parked_fits c.self.inside c.self.invariant (Some c.lock_key-lock.result)

pub put-requires : goal.put-requires
put-requires c =
    let a = c.self.inside in
    let is_top : top (cpus_in a) c.args.cpu.0 ≡ Some c.in-Some.f = cc in
    let few = room_to_park (cpus_in a) a.live.items c.args.cpu.0 c.in-Some.f is_top c.self.invariant.kept.live in
    let room = c.self.invariant.parked_room in
    record { number = omega arith; room = λ absent. omega arith }

pub returns-in-Some-clause-done : goal.returns-in-Some-clause-done
returns-in-Some-clause-done c =
    let a = c.self.inside in
    let is_top : top (cpus_in a) c.args.cpu.0 ≡ Some c.in-Some.f = cc in
    rw (← c.self.view_is, c.pop_from.ensures.rest, c.put.ensures.entries, in_order_is c.in-Some.f a.parked.entries (top_not_parked (cpus_in a) a.live.items c.args.cpu.0 c.in-Some.f is_top c.self.invariant.kept.live))
    (park_is (cpus_in a) c.args.cpu.0 c.in-Some.f is_top)

pub invariant_of-self : goal.invariant_of-self
invariant_of-self c =
    let a = c.self.inside in
    let h = c.self.invariant in
    let is_top : top (cpus_in a) c.args.cpu.0 ≡ Some c.in-Some.f = cc in
    let lock : option_map (λ (o : ObjectId). o.0) (Some c.lock_key-lock.result) ≡ Some (lock_key (frame_of (cpus_in a) c.in-Some.f)) = ap Some (c.lock_key-lock.ensures ∙ ap (λ (r : Running). lock_key r.frame) c.get.ensures.value) in
    record {
      live_room = h.live_room;
      peaks_room = h.peaks_room;
      parked_room = omega arith;
      kept = rw (c.pop_from.ensures.rest, c.put.ensures.entries, in_order_is c.in-Some.f a.parked.entries (top_not_parked (cpus_in a) a.live.items c.args.cpu.0 c.in-Some.f is_top h.kept.live))
          (kept_park (cpus_in a) a.live.items a.peaks.items a.on a.waits c.args.cpu.0 c.in-Some.f is_top h.kept);
      parked_for = rw (c.pop_from.ensures.rest, c.put.ensures.entries, in_order_is c.in-Some.f a.parked.entries (top_not_parked (cpus_in a) a.live.items c.args.cpu.0 c.in-Some.f is_top h.kept.live))
          (parking_parked (cpus_in a) a.parked_for c.moves.new.self c.args.cpu.0 c.in-Some.f
          (swapped_by a.parked_for c.moves.new.self None (Some c.lock_key-lock.result) None (Some (lock_key (frame_of (cpus_in a) c.in-Some.f))) c.moves.ensures refl lock (none_left a.parked_for)) h.parked_for);
      untils = rw (c.pop_from.ensures.rest, c.put.ensures.entries, in_order_is c.in-Some.f a.parked.entries (top_not_parked (cpus_in a) a.live.items c.args.cpu.0 c.in-Some.f is_top h.kept.live)) (spending_parked (cpus_in a) a.untils c.args.cpu.0 c.in-Some.f is_top h.untils);
    }

pub invariant_of-self-in_default : goal.invariant_of-self-in_default
invariant_of-self-in_default c =
    let a = c.self.inside in
    let h = c.self.invariant in
    let none : first_of_list (entry [] a.stacks.items c.args.cpu.0) ≡ None = nothing_else _ _ c.pop_from.ensures.top c.in_default.not-Some in
    let many : length c.args.self.now.stacks ≡ length a.stacks.items = ap (λ (C : Cpus). length C.stacks) (sym c.self.view_is) in
    record {
      live_room = h.live_room;
      peaks_room = h.peaks_room;
      parked_room = h.parked_room;
      kept = rw (c.pop_from.ensures.rest, empty_stays a.stacks.items c.args.cpu.0 (omega arith) none) h.kept;
      parked_for = rw (c.pop_from.ensures.rest, empty_stays a.stacks.items c.args.cpu.0 (omega arith) none) h.parked_for;
      untils = rw (c.pop_from.ensures.rest, empty_stays a.stacks.items c.args.cpu.0 (omega arith) none) h.untils;
    }
