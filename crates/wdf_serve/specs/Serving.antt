-- What the program does for its arguments. (own)
use Rattle.std.specs.Prelude.{ℕ, ◌⊎◌}
use Rattle.wdf_arguments.specs.Arguments.{Arguments, words_after_name}
use Rattle.wdf_output.specs.Refusals.{no_memory_line}
use Rattle.wdf_output.specs.Said.{Sinking, Says}
use Rattle.wdf_serve.specs.Promises.{Promises}
use Rattle.wdf_top.specs.Top.{Sourcing, IsUnread}

-- What the program does for its arguments: it keeps what the top call promises for the words after its name. Or memory
-- for the words is refused: then nothing is read, and the line `out of memory` is due with 15.
abbrev pub Serves : Arguments → Sourcing → Sinking → ℕ → Type 0
Serves arguments s k answer =
    Promises (words_after_name arguments) s k answer
    ⊎ (IsUnread s × Says k no_memory_line 15 answer)
