-- What is answered and written.
use Rattle.std.proofs.Common.{ℕ, List, ◌≡◌, Some, None, refl, inl, inr}
use Rattle.wdf_output.specs.Said.{Sinking, Says}
use Rattle.wdf_view.specs.declared.bad.Bad.{Bad}
use Rattle.wdf_view.specs.declared.words.Form.{Form}
use Rattle.wdf_view.specs.Causes.{Sourcing, IsCause, IsShownFrom, bad_line, bad_status}
use Rattle.wdf_view.specs.Formed.{IsFormed}
use Rattle.wdf_view.specs.Views.{Tells, usage_line}

-- a picture was said
pub picture_told : (form : Form) (s : Sourcing) (k : Sinking) (text : List ℕ) (answer : ℕ) → IsShownFrom s → IsFormed form text → Says k text 0 answer → Tells (Some form) s k answer
picture_told form s k text answer shown formed said = (text, 0, inl (shown, formed, refl), said)

-- why there is none was said
pub refusal_told : (form : Form) (s : Sourcing) (k : Sinking) (bad : Bad) (answer : ℕ) → IsCause s bad → Says k (bad_line bad) (bad_status bad) answer → Tells (Some form) s k answer
refusal_told form s k bad answer cause said = (bad_line bad, bad_status bad, inr (bad, cause, refl, refl), said)

-- the usage was said, and nothing was read
pub usage_told : (s : Sourcing) (k : Sinking) (answer : ℕ) → s.after ≡ s.before → s.faults_after ≡ s.faults_before → Says k usage_line 2 answer → Tells None s k answer
usage_told s k answer kept quiet said = (usage_line, 2, ((kept, quiet), refl, refl), said)
