use Rattle.std.proofs.Common.{◌+◌, ◌-◌, vec_capacity, vec_len}
use Rattle.wdf_ilist.proofs.Zeros.{Grows}
use Rattle.wdf_sets.proofs.words.Words.set.Given as goal

abbrev pub invariant-loop-self : goal.invariant-loop-self
invariant-loop-self l = Grows l.initial.self-inside.written.items l.self-inside.written.items l.initial.self-inside.places l.self-inside.places (vec_capacity l.self-inside.written)

abbrev pub decreases-loop-self : goal.decreases-loop-self
decreases-loop-self l = l.word + 1 - vec_len l.self-inside.written
