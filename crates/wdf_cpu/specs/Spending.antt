-- The ticks until which frames spend: what comes and goes, and which frames have them.
use Rattle.std.specs.Prelude.{ℕ, ◌≡◌, ◌+◌, ◌<◌, ◌≤◌, Bool, false, nat_lt, List, length, count_by, get_or}
use Rattle.wdf_model.specs.Tables.{flag}
use Rattle.wdf_model.specs.parts.Cpus.{Cpus, all_frames, frame_of}

-- A tick came, if it isn't 0: each test that 0 doesn't pass counts it.
pub record Came (tick : ℕ) (old new : List ℕ) : Type 0 where
  pub counts : (p : ℕ → Bool) → p 0 ≡ false → count_by p new ≡ count_by p old + flag (p tick)
  pub many : length new ≡ length old + flag (nat_lt 0 tick)

-- A tick went, if it isn't 0.
pub record Went (tick : ℕ) (old new : List ℕ) : Type 0 where
  pub counts : (p : ℕ → Bool) → p 0 ≡ false → count_by p new + flag (p tick) ≡ count_by p old
  pub many : length new + flag (nat_lt 0 tick) ≡ length old

-- One tick went, and another came.
pub record IsMoved (left came : ℕ) (old new : List ℕ) : Type 0 where
  pub counts : (p : ℕ → Bool) → p 0 ≡ false → count_by p new + flag (p left) ≡ count_by p old + flag (p came)
  pub many : length new + flag (nat_lt 0 left) ≡ length old + flag (nat_lt 0 came)

-- No tick before the place is greater, and none from it on is less.
pub record IsPlaceFor (tick : ℕ) (ticks : List ℕ) (place : ℕ) : Type 0 where
  pub within : place ≤ length ticks
  pub before : (k d : ℕ) → k < place → get_or ticks k d ≤ tick
  pub after : (k d : ℕ) → place ≤ k → k < length ticks → tick ≤ get_or ticks k d

-- The ticks are those of the frames that run or are parked.
pub record SpendUntil (C : Cpus) (ticks : List ℕ) : Type 0 where
  pub counts : (p : ℕ → Bool) → p 0 ≡ false → count_by p ticks ≡ count_by (λ f. p (frame_of C f).until) (all_frames C)
  pub many : length ticks ≡ count_by (λ f. nat_lt 0 (frame_of C f).until) (all_frames C)
