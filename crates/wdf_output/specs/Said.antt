-- What becomes of a text that is to be written.
use Rattle.std.specs.Prelude.{ℕ, ◌≡◌, ◌<◌, ◌⊎◌, ◌++◌, List, length, take, Option}
use Rattle.wdf_io.specs.Outside.{Rose, Gains}

-- what a sink has written and how many faults it has counted, before a call and after it
pub record Sinking : Type 0 where
  pub before : Option (List ℕ)
  pub after : Option (List ℕ)
  pub faults_before : ℕ
  pub faults_after : ℕ

abbrev pub sinking : Option (List ℕ) → Option (List ℕ) → ℕ → ℕ → Sinking
sinking before after faults_before faults_after =
    record { before = before; after = after; faults_before = faults_before; faults_after = faults_after }

-- the sink failed, and a front of the text was written, less than the whole
pub record IsCutShort (s : Sinking) (text : List ℕ) : Type 0 where
  pub rose : Rose s.faults_before s.faults_after
  pub size : ℕ
  pub within : size < length text
  pub front : Gains s.before s.after (take size text)

-- The whole text is written, no write failed, and the text's status is answered; or the sink failed, less than
-- the whole text is written, a front of it, and 13 is answered. Nothing else is written. (own)
abbrev pub Says : Sinking → List ℕ → ℕ → ℕ → Type 0
Says s text status answer = ((answer ≡ status) × Gains s.before s.after text × (s.faults_after ≡ s.faults_before)) ⊎ ((answer ≡ 13) × IsCutShort s text)

-- A text was added to a page: what was written meanwhile, and the page after it, are the page before and the text.
pub record Adds (before after : Option (List ℕ)) (old new text : List ℕ) : Type 0 where
  pub out : List ℕ
  pub gained : Gains before after out
  pub is : out ++ new ≡ old ++ text
