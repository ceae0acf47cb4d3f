-- The first id from one on, below an end, that passes a test.
use Rattle.std.specs.Prelude.{ℕ, ◌≡◌, ◌<◌, ◌≤◌, Bool, true, false}

-- no id from one on below an end passes a test
abbrev pub NoneFrom : (ℕ → Bool) → ℕ → ℕ → Type 0
NoneFrom test from end = (id : ℕ) → from ≤ id → id < end → test id ≡ false

-- The first id from one on below an end that does.
pub record IsNext (test : ℕ → Bool) (from end id : ℕ) : Type 0 where
  pub after : from ≤ id
  pub within : id < end
  pub passes : test id ≡ true
  pub before : NoneFrom test from id
