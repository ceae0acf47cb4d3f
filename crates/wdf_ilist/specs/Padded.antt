-- Numbers that are followed by zeros.
use Rattle.std.specs.Prelude.{ℕ, ◌-◌, List, ◌++◌, length, replicate}

-- numbers, and zeros up to so many places
abbrev pub padded : List ℕ → ℕ → List ℕ
padded numbers places = numbers ++ replicate (places - length numbers) 0
