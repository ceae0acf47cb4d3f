-- What is told, for words that are `run` and for others.
use Rattle.std.proofs.Common.{ℕ, ◌≡◌, Bool, true, false, List, Option, Some, None, refl}
use Rattle.wdf_dev.specs.Agents.{agent_meaning}
use Rattle.wdf_output.specs.Said.{Sinking}
use Rattle.wdf_top.specs.Answers.{Freely, running}
use Rattle.wdf_top.specs.declared.words.Form.{Form}
use Rattle.wdf_top.specs.declared.words.Form.TheVariants.{Check, Order, Seed, Replay, Gen, Load, Idle, Stack, Lint}
use Rattle.wdf_top.specs.Top.{Sourcing, Tells, TellsBy, Usage, service_of}
use Rattle.wdf_top.specs.Words.{form_of_words}
use Rattle.wdf_serve.specs.Words.{is_threaded, service_as, service_for}

pub run_told : (words : List (List ℕ)) (s : Sourcing) (k : Sinking) (answer : ℕ) → is_threaded words ≡ true → TellsBy (running agent_meaning Freely) s k answer → Tells (service_for words) s k answer
run_told words s k answer same told = rw same told

pub form_told : (words : List (List ℕ)) (s : Sourcing) (k : Sinking) (answer : ℕ) → is_threaded words ≡ false → Tells (service_of (form_of_words words)) s k answer → Tells (service_for words) s k answer
form_told words s k answer same told = rw same told

-- only words of no form ask for the usage line
pub usage_is : (run : Bool) (form : Option Form) → service_as run form ≡ Usage → (run ≡ false) × (form ≡ None)
usage_is true form h = absurd (let z : ⊥ = cc in z)
usage_is false None h = (refl, refl)
usage_is false (Some Check) h = absurd (let z : ⊥ = cc in z)
usage_is false (Some Order) h = absurd (let z : ⊥ = cc in z)
usage_is false (Some (Seed n)) h = absurd (let z : ⊥ = cc in z)
usage_is false (Some Replay) h = absurd (let z : ⊥ = cc in z)
usage_is false (Some (Gen n)) h = absurd (let z : ⊥ = cc in z)
usage_is false (Some (Load n)) h = absurd (let z : ⊥ = cc in z)
usage_is false (Some Idle) h = absurd (let z : ⊥ = cc in z)
usage_is false (Some Stack) h = absurd (let z : ⊥ = cc in z)
usage_is false (Some Lint) h = absurd (let z : ⊥ = cc in z)

pub usage_of : (words : List (List ℕ)) → is_threaded words ≡ false → form_of_words words ≡ None → service_for words ≡ Usage
usage_of words other none_of = rw (other, none_of) refl
