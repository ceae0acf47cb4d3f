-- The arguments of a program, and what is read of them.
use Rattle.std.specs.Prelude.{ℕ, ◌≡◌, ◌≢◌, List, [], map, drop, string_bytes, Result, Ok, Err}
use Rattle.std.specs.IoError.{error_kind}
use Rattle.std.specs.Vec.Iter.{into_iter_items}
use Rattle.std.specs.declared.alloc.Global.{Global}
use Rattle.std.specs.declared.io.Error.{Error}
use Rattle.std.specs.declared.io.ErrorKind.TheVariants.{OutOfMemory}
use Rattle.std.specs.declared.string.String.{String}
use Rattle.std.specs.declared.vec.IntoIter.{IntoIter}

-- the arguments, as the system gives them: the first is the program's name
abbrev pub Arguments : Type 0
Arguments = Result (IntoIter (String Global) Global) Error

-- the words after the program's name; none where the system can't give the arguments
abbrev pub words_after_name : Arguments → List (List ℕ)
words_after_name (Ok arguments) = map string_bytes (drop 1 (into_iter_items arguments))
words_after_name (Err error) = []

-- the system had no memory for the arguments
abbrev pub LacksMemory : Arguments → Type 0
LacksMemory (Ok arguments) = ⊥
LacksMemory (Err error) = error_kind error ≡ OutOfMemory

-- the system can't give the arguments, and not for lack of memory
abbrev pub LacksArguments : Arguments → Type 0
LacksArguments (Ok arguments) = ⊥
LacksArguments (Err error) = error_kind error ≢ OutOfMemory
