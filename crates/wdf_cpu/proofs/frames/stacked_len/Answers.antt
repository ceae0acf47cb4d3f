-- The frames so far are some of all.
use Rattle.std.proofs.Common.{◌≡◌, length, get_or, ap, arith}
use Rattle.std.proofs.lemmas.List.Folds.{length-flat_map-take}
use Rattle.wdf_cpu.proofs.frames.stacked_len.Goals as goal

pub overflow_add-total : goal.overflow_add-total
overflow_add-total c =
    let few = length-flat_map-take (λ fs. fs) c.args.stacks.now c.loop-stack.stack-index c.stack-item.result (omega arith) in
    let read : length c.stack-item.result ≡ length (get_or c.args.stacks.now c.loop-stack.stack-index c.stack-item.result) = ap length c.stack-item.is in
    omega arith
