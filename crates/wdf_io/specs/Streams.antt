-- Sources over readers and sinks over writers.
use Rattle.std.specs.Prelude.{ℕ, List, Option, ◌≡◌}
use Rattle.std.specs.Io.KnownBytes.{Keeps}
use Rattle.wdf_io.specs.Outside.{counted}

-- a source over a reader: what is left of the reader, where the reader says that, and how many calls failed
pub record FromReader : Type 0 where
  pub left : Option (List ℕ)
  pub faults : ℕ

-- a sink over a writer: what the writer has taken, where the writer says that, and how many calls failed
pub record IntoWriter : Type 0 where
  pub written : Option (List ℕ)
  pub faults : ℕ

-- a call that failed brought the sink from the one to the other: it is counted, and nothing was taken
abbrev pub RefusedBy : IntoWriter → IntoWriter → Type 0
RefusedBy before after = (after.faults ≡ counted before.faults) × Keeps before.written after.written
