-- What is said of a sink that failed, and of one that didn't.
use Rattle.std.proofs.Common.{ℕ, ◌≡◌, ◌≢◌, ◌<◌, inl, inr, List, sym, ◌∙◌, arith}
use Rattle.wdf_io.specs.Outside.{Gains}
use Rattle.wdf_top.specs.Causes.{Stayed}
use Rattle.wdf_output.specs.Said.{Sinking, IsCutShort}
use Rattle.wdf_top.specs.Top.{Sourcing, Service, IsDue, Tells}
use Rattle.wdf_top.proofs.Statuses.{due_no_sink}

-- ---- 13 exactly

-- where 13 isn't answered, the whole text was written, and no write failed
pub whole_text : (v : Service) (s : Sourcing) (k : Sinking) (answer : ℕ) → Tells v s k answer → answer ≢ 13
    → (k.faults_after ≡ k.faults_before) × ((text : List ℕ) × IsDue v s text answer × Gains k.before k.after text)
whole_text v s k answer (text, status, due, inl said) other = (said.2, (text, rw said.0 due, said.1))
whole_text v s k answer (text, status, due, inr said) other = absurd (other said.0)

-- where a write failed, 13 is answered
pub failed_write : (v : Service) (s : Sourcing) (k : Sinking) (answer : ℕ) → Tells v s k answer → k.faults_before < k.faults_after
    → (answer ≡ 13) × ((text : List ℕ) × (status : ℕ) × IsDue v s text status × IsCutShort k text)
failed_write v s k answer (text, status, due, inl said) rose = absurd (omega (arith, rose, said.2))
failed_write v s k answer (text, status, due, inr said) rose = (said.0, (text, status, due, said.1))

-- where no write failed, the whole text was written
pub no_failed_write : (v : Service) (s : Sourcing) (k : Sinking) (answer : ℕ) → Tells v s k answer → Stayed k.faults_before k.faults_after
    → (answer ≢ 13) × ((text : List ℕ) × IsDue v s text answer × Gains k.before k.after text)
no_failed_write v s k answer (text, status, due, inl said) stayed =
    ((λ same. due_no_sink v s text status due (sym said.0 ∙ same)), (text, rw said.0 due, said.1))
no_failed_write v s k answer (text, status, due, inr said) stayed = let cut : IsCutShort k text = said.1 in absurd (stayed cut.rose)
