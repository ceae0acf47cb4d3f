-- What is kept beside the bits of a set.
use Rattle.std.specs.Prelude.{ℕ, ◌≡◌, ◌+◌, ◌*◌, ◌<◌, ◌≤◌, ◌^◌, Bool, List, length, nat_le, slice_index}
use Rattle.wdf_sets.specs.Members.{is_in, rank}
use Rattle.wdf_sets.specs.declared.id_set.IdSet.TheInside.{Inside}

-- The members of each 512 ids are counted, and all of them.
pub record AreCounted (bits : List Bool) (counts : List ℕ) (len : ℕ) : Type 0 where
  pub blocks : length bits ≡ 512 * length counts
  pub few : length bits ≤ 2 ^ 31
  pub whole : len ≡ rank (length bits) bits
  pub counted : (b : ℕ) → b < length counts → slice_index counts b + rank (512 * b) bits ≡ rank (512 * b + 512) bits

-- whether a word of 64 ids has a member
abbrev pub has_some : ℕ → List Bool → Bool
has_some word bits = nat_le (rank (64 * word) bits + 1) (rank (64 * word + 64) bits)

-- The words that have a member are noted.
pub record AreNoted (bits words : List Bool) : Type 0 where
  pub long : length bits ≡ 64 * length words
  pub each : (word : ℕ) → is_in word words ≡ has_some word bits

abbrev pub IsInOrder : Inside → Type 0
IsInOrder s = AreCounted s.bits s.counts.items s.len × AreNoted s.bits s.words
