-- One of the frame goes each time, and at the end none is left.
use Rattle.std.proofs.Common.{◌≡◌, refl, ◌∙◌, arith}
use Rattle.std.specs.List.{remove}
use Rattle.wdf_model.specs.declared.entries.HeldLevel.{HeldLevel}
use Rattle.wdf_cpu.proofs.HeldLevels.{all_others, others_stay, removed_there, shorter, take_removed}
use Rattle.wdf_cpu.proofs.levels.drop_levels.Goals as goal

pub loop-met-init : goal.loop-met-init
loop-met-init c = record { gone = refl; met = omega arith; others = refl; capacity = refl }

pub next_of-place-requires : goal.next_of-place-requires
next_of-place-requires c =
    let gone = c.loop-met.invariant.gone in
    let met = c.loop-met.invariant.met in
    omega arith

pub loop-met-preserved : goal.loop-met-preserved
loop-met-preserved c =
    let ls = c.loop-met.levels.items in
    let place = c.next_of-place.result in
    let n = c.next_of-place.ensures in
    let len = c.loop-met.levels.ok.0 in
    let l : HeldLevel = record { frame = c.args.f; level = record { 0 = 0 } } in
    let removed : c.remove-held.new.self.items ≡ remove ls place =
    removed_there place c.loop-met.levels.len ls c.remove-held.new.self.items c.remove-held.result len n.within c.remove-held.ensures.items c.remove-held.ensures.variant in
    let one = shorter c.args.f.0 ls place l n.within (n.its l) in
    let met = c.loop-met.invariant.met in
    record {
      gone = rw (removed, take_removed ls place n.within, n.none) c.loop-met.invariant.gone;
      met = rw removed (omega arith);
      others = rw removed (others_stay c.args.f.0 ls place l n.within (n.its l) ∙ c.loop-met.invariant.others);
      capacity = c.remove-held.ensures.capacity ∙ c.loop-met.invariant.capacity;
    }

pub returns-clause-items : goal.returns-clause-items
returns-clause-items c =
    let met = c.loop-met.invariant.met in
    all_others c.args.f.0 c.loop-met.levels.items (omega arith) ∙ c.loop-met.invariant.others

pub returns-clause-capacity : goal.returns-clause-capacity
returns-clause-capacity c = c.loop-met.invariant.capacity
