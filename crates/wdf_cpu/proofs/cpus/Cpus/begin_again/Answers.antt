-- Nothing runs, and nothing is counted.
use Rattle.std.proofs.Common.{◌≡◌, ℕ, List, [], length, replicate, refl, sym, ap, ◌∙◌}
use Rattle.std.proofs.lemmas.Simd.{splat_is_map}
use Rattle.wdf_model.specs.parts.Cpus.{Cpus}
use Rattle.wdf_cpu.proofs.Keeping.{kept_opening}
use Rattle.wdf_cpu.proofs.Parking.{parking_opening}
use Rattle.wdf_cpu.proofs.Ticks.{spending_opening}
use Rattle.wdf_cpu.proofs.cpus.Cpus.begin_again.Goals as goal

pub invariant_of-self : goal.invariant_of-self
invariant_of-self c =
    let none : List ℕ = [] in
    let many : length c.self.inside.stacks.items ≡ c.args.plan.now.cpus = ap (λ (C : Cpus). length C.stacks) c.self.view_is ∙ c.requires in
    let stacks : c.clear_stacks.new.stacks.items ≡ replicate c.args.plan.now.cpus [] = c.clear_stacks.ensures ∙ sym (splat_is_map c.self.inside.stacks.items c.args.plan.now.cpus none many) in
    record {
      live_room = rw c.clear-4.ensures.capacity c.self.invariant.live_room;
      peaks_room = rw c.clear-5.ensures.capacity c.self.invariant.peaks_room;
      parked_room = rw c.clear-2.ensures.room c.self.invariant.parked_room;
      kept = rw (c.clear.ensures, stacks, c.clear-2.ensures.entries, c.clear-3.ensures, c.clear-4.ensures.items, c.clear-5.ensures.items, c.clear-6.ensures, c.clear-7.ensures) (kept_opening c.args.plan.now);
      parked_for = rw (c.clear.ensures, stacks, c.clear-2.ensures.entries, c.clear-3.ensures, c.clear-8.ensures) (parking_opening c.args.plan.now);
      untils = rw (c.clear.ensures, stacks, c.clear-2.ensures.entries, c.clear-3.ensures, c.clear-9.ensures) (spending_opening c.args.plan.now);
    }

pub returns : goal.returns
returns c =
    let none : List ℕ = [] in
    let many : length c.self.inside.stacks.items ≡ c.args.plan.now.cpus = ap (λ (C : Cpus). length C.stacks) c.self.view_is ∙ c.requires in
    let stacks : c.clear_stacks.new.stacks.items ≡ replicate c.args.plan.now.cpus [] = c.clear_stacks.ensures ∙ sym (splat_is_map c.self.inside.stacks.items c.args.plan.now.cpus none many) in
    rw (c.clear.ensures, stacks, c.clear-2.ensures.entries, c.clear-3.ensures) refl
