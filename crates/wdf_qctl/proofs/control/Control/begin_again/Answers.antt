-- No device is closed, and no notification is due.
use Rattle.std.proofs.Common.{◌≡◌, ℕ, suc, ◌+◌, length, sym, ap, ◌∙◌, arith}
use Rattle.std.proofs.lemmas.List.{length-map}
use Rattle.std.proofs.lemmas.List.FromFn.{length-map-range_with_len}
use Rattle.wdf_model.specs.Plans.{queue_of}
use Rattle.wdf_model.specs.parts.Control.{Control, opening_mode}
use Rattle.wdf_qctl.specs.Kept.{seen}
use Rattle.wdf_qctl.proofs.Closing.{opened}
use Rattle.wdf_qctl.proofs.Due.{none_due}
use Rattle.wdf_qctl.proofs.control.Control.begin_again.Goals as goal

pub write_controls-requires : goal.write_controls-requires
write_controls-requires c =
    let kept = c.self.inside.kept.items in
    let many : length kept ≡ 1 + length c.args.plan.now.declared = sym (length-map kept (seen c.self.inside.closed.items)) ∙ ap (λ (M : Control). length M.controls) c.self.view_is ∙ c.requires in
    omega (arith, c.self.inside.kept.ok.0)

pub invariant_of-self : goal.invariant_of-self
invariant_of-self c =
    let kept = c.self.inside.kept.items in
    let plan = c.args.plan.now in
    let many : length kept ≡ 1 + length plan.declared = sym (length-map kept (seen c.self.inside.closed.items)) ∙ ap (λ (M : Control). length M.controls) c.self.view_is ∙ c.requires in
    let n : ℕ = suc (length plan.declared) in
    let long : length c.write_controls.new.all.items ≡ n = ap length c.write_controls.ensures ∙ length-map-range_with_len (λ q. opening_mode (queue_of plan q)) 0 n in
    record {
      room = omega (arith, c.self.invariant.room, c.clear.ensures.capacity);
      due = none_due plan c.write_controls.new.all.items (length c.self.inside.due) _ c.write_controls.ensures c.clear-2.ensures (let room = c.self.invariant.due.room in omega arith);
    }

pub returns : goal.returns
returns c = opened c.write_controls.new.all.items c.clear.new.self.items c.args.plan.now c.write_controls.ensures c.clear.ensures.items
