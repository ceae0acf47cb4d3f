-- The lesser of two numbers, each as far as it is there.
use Rattle.std.specs.Prelude.{ℕ, Option, Some, None}
use Rattle.wdf_model.specs.Tables.{lesser}

abbrev pub lesser_if : Option ℕ → Option ℕ → Option ℕ
lesser_if found None = found
lesser_if found (Some n) = lesser found n
