-- There is room, and the set is empty.
use Rattle.std.proofs.Common.{◌≡◌, ◌*◌, ℕ, false, length, replicate, ap, ◌∙◌, arith, lit≤}
use Rattle.std.specs.Int.{div_ceil}
use Rattle.std.proofs.lemmas.List.{length-replicate}
use Rattle.wdf_model.specs.declared.room.TheConstants.{OBJECTS}
use Rattle.wdf_tree.proofs.Leaving.{none_in}
use Rattle.wdf_tree.proofs.tree.gather.Subtree.make.Goals as goal

pub invariant_of-result : goal.invariant_of-result
invariant_of-result c =
    let n : ℕ = 4096 * div_ceil OBJECTS 4096 in
    let made : c.in_ok-make.field-0 ≡ replicate n false = c.in_ok-make.ensures in
    let long : length c.in_ok-make.field-0 ≡ n = ap length made ∙ length-replicate n false in
    record {
      ids = omega (arith, c.in_ok-with_capacity.ensures.exact);
      ahead = rw long (lit≤ tt);
      none = λ x. rw made (none_in n x);
    }
