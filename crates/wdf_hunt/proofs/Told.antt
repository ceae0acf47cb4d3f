-- What is said of a case that was read, and of what is none.
use Rattle.std.proofs.Common.{ℕ, ◌≡◌, inl, inr, List, Result, refl, ap, subst, sym}
use Rattle.wdf_input.specs.declared.input.TheConstants.{INPUT_LIMIT}
use Rattle.wdf_input.proofs.Taken.{all_within}
use Rattle.wdf_output.specs.declared.refusal.Refusal.TheVariants.{NoMemory}
use Rattle.wdf_output.specs.Said.{Sinking, Says}
use Rattle.wdf_top.specs.Causes.{IsCause, all_of}
use Rattle.wdf_top.specs.Top.{Sourcing, IsRead, TellsBy}
use Rattle.wdf_top.proofs.Due.{refusal_told}
use Rattle.wdf_expect.specs.declared.rules.Expectation.{Expectation}
use Rattle.wdf_tries.specs.declared.tried.Case.{Case}
use Rattle.wdf_hunt.specs.declared.read.CaseRefusal.{CaseRefusal}
use Rattle.wdf_hunt.specs.declared.read.CaseRefusal.TheVariants.{Scenario, Unread}
use Rattle.wdf_hunt.specs.Answers.{IsDueOf, TellsDue, unread_line, writing}
use Rattle.wdf_hunt.specs.Cases.{IsCaseRefusal, IsReadCase, case_refusal_line, case_refusal_status}

-- memory may be wanting after the whole input
pub no_memory_after : (s : Sourcing) (input : List ℕ) → IsRead s input → IsCause all_of s NoMemory
no_memory_after s input is_read = (is_read.2, all_within s.before s.after input INPUT_LIMIT is_read.0 is_read.1)

-- a case in which nothing is moved
unmoved : (tried : Case) → tried.jitter ≡ 0 → tried ≡ record { scene = tried.scene; expectations = tried.expectations; jitter = 0 }
unmoved tried none = ap (λ (n : ℕ). record tried { jitter = n }) none

pub due_told : (Due : Case → List ℕ → ℕ → Type 0) (s : Sourcing) (k : Sinking) (tried : Case) (answer : ℕ) → IsReadCase s tried → TellsDue (Due tried) k answer → TellsBy (writing Due) s k answer
due_told Due s k tried answer (input, (is_read, stands, accepted), told, none) (text, status, inl due, said) =
    let due_at : Due (record { scene = tried.scene; expectations = tried.expectations; jitter = 0 }) text status = subst (λ (t : Case). Due t text status) (unmoved tried none) due in
    let due_of = subst (λ (r : Result (List Expectation) ℕ). IsDueOf Due tried.scene r text status) (sym told) due_at in
    (text, status, inl (input, is_read, inr (tried.scene, stands, accepted, due_of)), said)
due_told Due s k tried answer (input, (is_read, stands, accepted), told, none) (text, status, inr wants, said) =
    refusal_told (writing Due) s k NoMemory answer (no_memory_after s input is_read) (rw (wants.0, wants.1) at said)

pub case_refusal_told : (Due : Case → List ℕ → ℕ → Type 0) (s : Sourcing) (k : Sinking) (refusal : CaseRefusal) (answer : ℕ) → IsCaseRefusal s refusal
    → Says k (case_refusal_line refusal) (case_refusal_status refusal) answer → TellsBy (writing Due) s k answer
case_refusal_told Due s k (Scenario refusal) answer cause said = refusal_told (writing Due) s k refusal answer cause said
case_refusal_told Due s k (Unread line) answer (input, scene, (is_read, stands, accepted), told) said =
    let due_of = subst (λ (r : Result (List Expectation) ℕ). IsDueOf Due scene r (unread_line line) 10) (sym told) (refl, refl) in
    (unread_line line, 10, inl (input, is_read, inr (scene, stands, accepted, due_of)), said)
