use Rattle.std.proofs.Common.{◌+◌, ◌-◌, vec_capacity, vec_len}
use Rattle.wdf_ilist.proofs.table.Table.set.Given as goal
use Rattle.wdf_ilist.proofs.Zeros.{Grows}

abbrev pub invariant-loop-self : goal.invariant-loop-self
invariant-loop-self l = Grows l.initial.self-inside.numbers.items l.self-inside.numbers.items l.initial.self-inside.places l.self-inside.places (vec_capacity l.self-inside.numbers)

abbrev pub decreases-loop-self : goal.decreases-loop-self
decreases-loop-self l = l.place + 1 - vec_len l.self-inside.numbers
