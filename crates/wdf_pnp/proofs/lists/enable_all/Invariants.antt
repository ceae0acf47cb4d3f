-- The interrupts so far are enabled.
use Rattle.std.proofs.Common.{◌≡◌, ◌+◌, ◌*◌, ◌≤◌, ◌++◌, take, vec_len, vec_capacity}
use Rattle.std.specs.List.{flat_map}
use Rattle.wdf_model.specs.parts.Pnp.{enable_steps}
use Rattle.wdf_pnp.proofs.lists.enable_all.Given as goal

abbrev pub invariant-loop-interrupt : goal.invariant-loop-interrupt
invariant-loop-interrupt l = record {
  items : l.left.items ≡ l.fn.left.items ++ flat_map enable_steps (take l.interrupt-index l.interrupts);
  few : vec_len l.left ≤ vec_len l.fn.left + 2 * l.interrupt-index;
  room : vec_capacity l.left ≡ vec_capacity l.fn.left;
}
