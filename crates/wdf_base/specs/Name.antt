-- How a name lies in its 32 bytes.
use Rattle.std.specs.Prelude.{◌≡◌, ℕ, ◌+◌, ◌-◌, ◌≤◌, List, ◌++◌, length, take, drop, replicate}
use Rattle.std.proofs.Common.{arith}
use Rattle.std.proofs.lemmas.List.{take-append-drop, length-take-le}

-- the first bytes are the name's, and zeros follow
pub record IsPadded (bytes : List ℕ) (len : ℕ) : Type 0 where
  pub room : length bytes ≡ 32
  pub small : len ≤ 32
  pub zeros : drop len bytes ≡ replicate (32 - len) 0

-- the bytes of a name with the zeros after them
abbrev pub padded : List ℕ → List ℕ
padded name = name ++ replicate (32 - length name) 0

-- what is taken as the name has the length that was given
pub length-front : (bytes : List ℕ) (len : ℕ) → IsPadded bytes len → length (take len bytes) ≡ len
length-front bytes len h = length-take-le len bytes (omega (arith, h.room, h.small))

-- the bytes of a name and the zeros after it are the 32 bytes
pub padded-front : (bytes : List ℕ) (len : ℕ) → IsPadded bytes len → padded (take len bytes) ≡ bytes
padded-front bytes len h =
    let e = length-front bytes len h in
    rw (e, ← h.zeros) (take-append-drop len bytes)
