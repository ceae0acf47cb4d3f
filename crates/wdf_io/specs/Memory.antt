-- Sources and sinks that hold their bytes in memory, and fail at the calls whose numbers they are given.
use Rattle.std.specs.Prelude.{ℕ, ◌+◌, ◌-◌, min, List, ◌++◌, length, drop, Contains}
use Rattle.wdf_io.specs.Outside.{counted}

-- the calls of a source or a sink: the numbers, from 1, of those that fail; how many were made; how many failed
pub record Calls : Type 0 where
  pub fail_at : List ℕ
  pub made : ℕ
  pub faults : ℕ

-- the next call is one of those that fail
abbrev pub NextFails : Calls → Type 0
NextFails calls = Contains calls.fail_at (calls.made + 1)

-- after a call that did its work
abbrev pub served : Calls → Calls
served calls = record calls { made = counted calls.made }

-- after a call that failed
abbrev pub failed : Calls → Calls
failed calls = record calls { made = counted calls.made; faults = counted calls.faults }

-- a source: the bytes not yet read, the most that one call gives, and its calls
pub record Supply : Type 0 where
  pub left : List ℕ
  pub piece : ℕ
  pub calls : Calls

-- how many bytes a call that doesn't fail gives into a buffer of this length
abbrev pub given : Supply → ℕ → ℕ
given supply room = min supply.piece (min room (length supply.left))

-- the source after it gave so many bytes
abbrev pub after_giving : Supply → ℕ → Supply
after_giving supply count = record supply { left = drop count supply.left; calls = served supply.calls }

-- the source after a call that failed
abbrev pub after_failing : Supply → Supply
after_failing supply = record supply { calls = failed supply.calls }

-- a sink: the bytes written, how many it can hold in all, and its calls
pub record Store : Type 0 where
  pub written : List ℕ
  pub room : ℕ
  pub calls : Calls

-- how many bytes of a piece of this length a call that doesn't fail takes
abbrev pub taken : Store → ℕ → ℕ
taken store size = min size (store.room - length store.written)

-- the sink after it took the bytes
abbrev pub after_taking : Store → List ℕ → Store
after_taking store bytes = record store { written = store.written ++ bytes; calls = served store.calls }

-- the sink after a call that failed
abbrev pub after_refusing : Store → Store
after_refusing store = record store { calls = failed store.calls }
