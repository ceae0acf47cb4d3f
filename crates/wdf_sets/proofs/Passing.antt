-- A member is looked for by passing over parts that have too few: what the loops keep.
use Rattle.std.proofs.Common.{ℕ, ◌≡◌, ◌+◌, ◌%◌, ◌<◌, ◌≤◌, Bool, List}
use Rattle.wdf_sets.specs.Members.{rank}
use Rattle.wdf_sets.specs.Parts.{number_of}
use Rattle.wdf_sets.specs.declared.bits.Part.{Part}

-- The words of a block are passed over up to one.
pub record Passes (bits : List Bool) (block : Part) (skipped start : ℕ) : Type 0 where
  pub number : skipped + rank start bits ≡ number_of bits block
  pub begins : start % 64 ≡ 0
  pub low : block.start ≤ start
  pub high : start < block.start + 512

-- A part of a word is cut in two, and the member stays in it.
pub record Narrows (bits : List Bool) (skipped start skipped' start' size : ℕ) : Type 0 where
  pub number : skipped' + rank start' bits ≡ skipped + rank start bits
  pub there : skipped + rank start bits < rank (start' + size) bits
  pub some : 0 < size
  pub low : start ≤ start'
  pub high : start' + size ≤ start + 64
