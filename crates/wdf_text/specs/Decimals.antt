-- The numbers that decimal digits write.
use Rattle.std.specs.Prelude.{ℕ, ◌+◌, ◌-◌, ◌*◌, ◌^◌, List, [], ◌∷◌, nat_lt, Option, Some, None, if◌then◌else◌}

-- the number that digits write after those of another number
abbrev pub number_after : ℕ → List ℕ → ℕ
number_after value [] = value
number_after value (digit ∷ digits) = number_after (10 * value + (digit - 48)) digits

-- the number that digits write, if it is below 2 ^ 64
abbrev pub small_number : List ℕ → Option ℕ
small_number digits = if nat_lt (number_after 0 digits) (2 ^ 64) then Some (number_after 0 digits) else None
