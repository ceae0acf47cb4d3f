-- The count is that of the bits.
use Rattle.std.proofs.Common.{◌≡◌, ◌-◌, Bool, true, false, refl, ap, sym, ◌∙◌, arith}
use Rattle.wdf_model.specs.Tables.{entry, flag, put}
use Rattle.wdf_model.specs.agents.IdlePolicy.{count_of}
use Rattle.wdf_maps.proofs.Counting.{count_put}
use Rattle.wdf_idle.proofs.idle_device.IdleDevice.complete.Goals as goal

pub invariant_of-self : goal.invariant_of-self
invariant_of-self c =
    let items = c.self.inside.pending.items in
    let was : entry false items c.args.request.0 ≡ true = sym (c.entry_at.ensures ∙ ap (λ xs. entry false xs c.args.request.0) c.as_slice.ensures.value) ∙ c.if-entry_at.true in
    let one : flag (entry false items c.args.request.0) ≡ 1 = ap flag was in
    let count = count_put (λ (b : Bool). b) false items c.args.request.0 false refl in
    let less : count_of (put false items c.args.request.0 false) ≡ count_of items - 1 = omega (arith, one, count) in
    record {
      counted = ap (λ n. n - 1) c.self.invariant.counted ∙ sym less ∙ ap count_of (sym c.clear.ensures.bits);
      room = omega (arith, c.self.invariant.room, c.clear.ensures.room);
    }
