-- One stack more is empty.
use Rattle.std.proofs.Common.{◌<◌, [], length, arith}
use Rattle.std.proofs.lemmas.List.Edits.{map_over_more}
use Rattle.wdf_cpu.proofs.cpus.clear_each.Goals as goal

pub loop-stack-preserved : goal.loop-stack-preserved
loop-stack-preserved c =
    let within : c.loop-stack.stack-index < length c.args.stacks.now = omega arith in
    rw c.clear.ensures (map_over_more (λ _. []) c.args.stacks.now c.loop-stack.stacks c.loop-stack.stack-index c.stack-item.result within c.loop-stack.invariant c.stack-item.is)
