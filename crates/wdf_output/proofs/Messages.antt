-- The word of a limit is short.
use Rattle.std.proofs.Common.{◌≤◌, length, lit≤}
use Rattle.wdf_refusals.specs.declared.limit.Limit.{Limit}
use Rattle.wdf_refusals.specs.declared.limit.Limit.TheVariants as limit
use Rattle.wdf_refusals.specs.Limits.{limit_word}

pub word_small : (l : Limit) → length (limit_word l) ≤ 10
word_small limit.Cpus = lit≤ tt
word_small _ = lit≤ tt
