-- Bits that are kept in words of 64.
use Rattle.std.specs.Prelude.{ℕ, ◌≡◌, ◌≢◌, ◌<◌, ◌*◌, ◌/◌, ◌%◌, ◌==◌, Bool, List, length, map, slice_index}
use Rattle.std.specs.Int.{bit_at}
use Rattle.std.specs.List.{range_with_len}

-- the bit of an id
abbrev pub bit_in : List ℕ → ℕ → Bool
bit_in words id = bit_at (slice_index words (id / 64)) (id % 64) == 1

-- the bits of the words, the lowest of each word first
unfoldable pub bits_of : List ℕ → List Bool
bits_of words = map (bit_in words) (range_with_len 0 (64 * length words))

-- The bit of a word at a place is written, and the others stay.
pub record Writes (old new place : ℕ) (on : Bool) : Type 0 where
  pub here : (bit_at new place == 1) ≡ on
  pub others : (j : ℕ) → j < 64 → j ≢ place → bit_at new j ≡ bit_at old j
