use Rattle.std.proofs.Common.{◌≡◌, ◌+◌, ◌*◌, ◌/◌}
use Rattle.wdf_sets.specs.Members.{rank}
use Rattle.wdf_sets.proofs.id_set.IdSet.before_word.Given as goal

abbrev pub invariant-loop-word : goal.invariant-loop-word
invariant-loop-word l = l.below + rank (512 * (l.id / 512)) l.self-inside.bits ≡ rank (64 * l.word) l.self-inside.bits
