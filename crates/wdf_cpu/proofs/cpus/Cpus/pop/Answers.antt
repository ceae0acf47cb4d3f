-- The top frame is live and counted, and isn't any more.
use Rattle.std.proofs.Common.{◌≡◌, Some, None, refl, arith}
use Rattle.wdf_base.specs.declared.ids.ObjectId.{ObjectId}
use Rattle.std.specs.Option.{option_map}
use Rattle.wdf_model.specs.parts.Cpus.{frame_of, top}
use Rattle.wdf_cpu.specs.Keys.{object_key, wait_key}
use Rattle.wdf_cpu.specs.Kept.{cpus_in}
use Rattle.wdf_cpu.proofs.Keeping.{kept_pop, on_counted, untils_fit, wait_counted}
use Rattle.wdf_cpu.proofs.Live.{top_goes_off, top_is_on, top_within}
use Rattle.wdf_cpu.proofs.Parking.{parking_popped}
use Rattle.wdf_cpu.proofs.Swapping.{swapped_by}
use Rattle.wdf_cpu.proofs.Ticks.{spending_popped, until_there}
use Rattle.wdf_cpu.proofs.cpus.Cpus.pop.Goals as goal

pub put_at-requires : goal.put_at-requires
put_at-requires c =
    let is_top : top (cpus_in c.self.inside) c.args.cpu.0 ≡ Some c.unwrap.result = cc in
    let within = top_within (cpus_in c.self.inside) c.self.inside.live.items c.args.cpu.0 c.unwrap.result is_top c.self.invariant.kept.live in
    record { room = omega arith }

pub put_at-requires-2 : goal.put_at-requires-2
put_at-requires-2 c =
    let is_top : top (cpus_in c.self.inside) c.args.cpu.0 ≡ Some c.unwrap.result = cc in
    let within = top_within (cpus_in c.self.inside) c.self.inside.live.items c.args.cpu.0 c.unwrap.result is_top c.self.invariant.kept.live in
    record { room = omega arith }

pub remove-requires : goal.remove-requires
remove-requires c =
    let is_top : top (cpus_in c.self.inside) c.args.cpu.0 ≡ Some c.unwrap.result = cc in
    top_within (cpus_in c.self.inside) c.self.inside.live.items c.args.cpu.0 c.unwrap.result is_top c.self.invariant.kept.live

pub moves-requires-3-clause-room : goal.moves-requires-3-clause-room
moves-requires-3-clause-room c = untils_fit c.self.inside c.self.invariant

pub moves-requires-3-clause-there : goal.moves-requires-3-clause-there
moves-requires-3-clause-there c =
    let a = c.self.inside in
    let is_top : top (cpus_in a) c.args.cpu.0 ≡ Some c.unwrap.result = cc in
    let one = top_is_on (cpus_in a) a.live.items c.args.cpu.0 c.unwrap.result is_top c.self.invariant.kept.live in
    rw c.get.ensures.value (until_there (cpus_in a) a.untils c.unwrap.result (frame_of (cpus_in a) c.unwrap.result).until refl one c.self.invariant.untils)

pub forget-requires : goal.forget-requires
forget-requires c =
    let is_top : top (cpus_in c.self.inside) c.args.cpu.0 ≡ Some c.unwrap.result = cc in
    record { there = top_within (cpus_in c.self.inside) c.self.inside.live.items c.args.cpu.0 c.unwrap.result is_top c.self.invariant.kept.live }

pub invariant_of-self : goal.invariant_of-self
invariant_of-self c =
    let a = c.self.inside in
    let h = c.self.invariant in
    let is_top : top (cpus_in a) c.args.cpu.0 ≡ Some c.unwrap.result = cc in
    let one = top_is_on (cpus_in a) a.live.items c.args.cpu.0 c.unwrap.result is_top h.kept.live in
    let object : option_map (λ (o : ObjectId). o.0) c.object_key-object.result ≡ object_key (frame_of (cpus_in a) c.unwrap.result) = rw c.get.ensures.value at c.object_key-object.ensures in
    let awaited : option_map (λ (o : ObjectId). o.0) c.wait_key-awaited.result ≡ wait_key (frame_of (cpus_in a) c.unwrap.result) = rw c.get.ensures.value at c.wait_key-awaited.ensures in
    record {
      live_room = omega arith;
      peaks_room = omega arith;
      parked_room = h.parked_room;
      kept = rw (c.remove.ensures, c.pop_from.ensures.rest, c.forget.ensures, c.put_at.ensures.entries, c.put_at-2.ensures.entries)
          (kept_pop (cpus_in a) a.live.items a.peaks.items a.on a.waits c.args.cpu.0 c.unwrap.result c.moves.new.self c.moves-2.new.self is_top
          (swapped_by a.on c.moves.new.self c.object_key-object.result None (object_key (frame_of (cpus_in a) c.unwrap.result)) None c.moves.ensures object refl (on_counted a c.unwrap.result _ h refl one))
          (swapped_by a.waits c.moves-2.new.self c.wait_key-awaited.result None (wait_key (frame_of (cpus_in a) c.unwrap.result)) None c.moves-2.ensures awaited refl (wait_counted a c.unwrap.result _ h refl one))
          h.kept);
      parked_for = rw (c.remove.ensures, c.pop_from.ensures.rest, c.forget.ensures) (parking_popped (cpus_in a) a.live.items a.parked_for c.args.cpu.0 c.unwrap.result is_top h.kept.live h.parked_for);
      untils = rw (c.remove.ensures, c.pop_from.ensures.rest, c.forget.ensures)
          (spending_popped (cpus_in a) a.untils c.moves-3.new.self c.args.cpu.0 c.unwrap.result is_top (top_goes_off (cpus_in a) a.live.items c.args.cpu.0 c.unwrap.result is_top h.kept.live) (rw c.get.ensures.value at c.moves-3.ensures) h.untils);
    }
