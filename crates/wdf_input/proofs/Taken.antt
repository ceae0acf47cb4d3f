-- What was taken of a source.
use Rattle.std.proofs.Common.{ℕ, ◌≤◌, ◌∙◌, List, [], length, Option, None, Some, sym, append-nil, arith}
use Rattle.std.specs.Io.KnownBytes.{Keeps}
use Rattle.wdf_io.specs.Outside.{Takes}
use Rattle.wdf_io.proofs.Pieces.{takes_kept}
use Rattle.wdf_input.specs.Input.{TakesAll, TakesAtMost}

-- bytes were taken, and then none
pub at_most_kept : (old middle new : Option (List ℕ)) (bytes : List ℕ) (limit : ℕ) → Takes old middle bytes → length bytes ≤ limit → Keeps middle new → TakesAtMost old new limit
at_most_kept old middle new bytes limit taken within kept = (bytes, within, takes_kept old middle new bytes taken kept)

-- all that was left, within a limit, is at most the limit
pub all_within : (before after : Option (List ℕ)) (input : List ℕ) (limit : ℕ) → TakesAll before after input → length input ≤ limit → TakesAtMost before after limit
all_within None after input limit all small = ([], omega arith, tt)
all_within (Some left) after input limit all small = (input, small, rw all.1 (all.0 ∙ sym (append-nil input)))
