use Rattle.std.proofs.Common.{◌≡◌, vec_capacity, vec_len}
use Rattle.wdf_target.specs.Opened.{opened}
use Rattle.wdf_target.proofs.targets.open.Given as goal

abbrev pub invariant-loop-id : goal.invariant-loop-id
invariant-loop-id l = (l.all.items ≡ opened l.plan l.id) × (vec_len l.all ≡ l.id) × (vec_capacity l.all ≡ l.ids)
