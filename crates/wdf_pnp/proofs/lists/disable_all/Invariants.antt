-- The interrupts so far, from the last one, are disabled.
use Rattle.std.proofs.Common.{◌≡◌, ◌+◌, ◌*◌, ◌≤◌, ◌++◌, length, map, vec_len, vec_capacity}
use Rattle.std.specs.List.{flat_map}
use Rattle.wdf_model.specs.parts.Pnp.{disable_steps}
use Rattle.wdf_pnp.proofs.lists.disable_all.Given as goal

abbrev pub invariant-loop-interrupt : goal.invariant-loop-interrupt
invariant-loop-interrupt l = record {
  items : l.left.items ≡ l.fn.left.items ++ flat_map disable_steps (map (λ i. i.now) l.yielded);
  few : vec_len l.left ≤ vec_len l.fn.left + 2 * length l.yielded;
  room : vec_capacity l.left ≡ vec_capacity l.fn.left;
}
