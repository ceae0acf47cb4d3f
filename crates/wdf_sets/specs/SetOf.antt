-- The set of the ids that pass a test.
use Rattle.std.specs.Prelude.{ℕ, ◌≡◌, ◌≤◌, Bool, List, length, slice_index_or}
use Rattle.wdf_sets.specs.Members.{is_in}

-- A set has a bit for each id below an end, and its members are the ids that pass a test.
pub record IsSetOf (test : ℕ → Bool) (end : ℕ) (bits : List Bool) : Type 0 where
  pub room : end ≤ length bits
  pub same : (id : ℕ) → is_in id bits ≡ test id

-- whether the entry of an id in a list passes a test, the blank one past the end
abbrev pub passes : {T : Type 0} → T → (T → Bool) → List T → ℕ → Bool
passes blank test all id = test (slice_index_or all id blank)
