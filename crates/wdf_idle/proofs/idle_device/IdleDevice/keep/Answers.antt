-- The count is that of the bits.
use Rattle.std.proofs.Common.{◌≡◌, Bool, true, false, refl, ap, sym, ◌∙◌, arith}
use Rattle.wdf_model.specs.Tables.{entry, flag, put}
use Rattle.wdf_model.specs.agents.IdlePolicy.{count_of}
use Rattle.wdf_maps.proofs.Counting.{count_put}
use Rattle.wdf_idle.proofs.idle_device.IdleDevice.keep.Goals as goal

pub invariant_of-self : goal.invariant_of-self
invariant_of-self c =
    let items = c.self.inside.pending.items in
    let one : flag true ≡ 1 = refl in
    let same : flag (entry false c.as_slice.result.now c.args.request.0) ≡ flag (entry false items c.args.request.0) = ap (λ xs. flag (entry false xs c.args.request.0)) c.as_slice.ensures.value in
    let count = count_put (λ (b : Bool). b) false items c.args.request.0 true refl in
    let more : c.with_one-self-inside.result ≡ count_of (put false items c.args.request.0 true) = omega (arith, one, same, count, c.with_one-self-inside.ensures, c.self.invariant.counted) in
    record {
      counted = more ∙ ap count_of (sym c.put_at.ensures.entries);
      room = omega (arith, c.self.invariant.room, c.put_at.ensures.room);
    }
