-- Which statuses each form of words may answer, and what they come from.
use Rattle.std.proofs.Common.{ℕ, ◌≡◌, ◌==◌, ◌||◌, ◌⊎◌, inl, inr, Bool, true, false, IsTrue, List, refl, sym, ap, ◌∙◌, arith, ◌≢◌}
use Rattle.wdf_base.specs.declared.event.Ending.{Ending}
use Rattle.wdf_base.specs.declared.event.Ending.TheVariants as ending
use Rattle.wdf_scene.specs.declared.scene.Scene.{Scene}
use Rattle.wdf_io.specs.Outside.{Rose}
use Rattle.wdf_parse.specs.StandsFor.{StandsFor}
use Rattle.wdf_lint.specs.declared.static_check.LintAnswer.{LintAnswer}
use Rattle.wdf_lint.specs.declared.static_check.LintAnswer.TheVariants as lint
use Rattle.wdf_lint_text.specs.Lines.{answer_status}
use Rattle.wdf_output.specs.Endings.{status_of}
use Rattle.wdf_output.specs.Said.{Sinking, IsCutShort}
use Rattle.wdf_top.specs.Answers.{Answering, Answers, Reading, Canonical, Run, Judgement, Findings, answering_of}
use Rattle.wdf_top.specs.Causes.{is_status}
use Rattle.wdf_top.specs.Top.{Sourcing, IsDue, IsReadDue, IsSummary, Service, Tells, TellsBy, Usage, Reads, Scenario, Summary, reads_input, scenario_by}

-- ---- tests of statuses

-- a test that holds of each status of what is written
abbrev pub Fits : (ℕ → Bool) → Answering → Type 0
Fits p a = (input : List ℕ) (scene : Scene) (stands : StandsFor (a.scenario input) scene) (text : List ℕ) (status : ℕ) → a.writes input (a.scenario input) scene stands text status → p status ≡ true

answers_fit : (p : ℕ → Bool) (a : Answering) → Fits p a → p 10 ≡ true → p 11 ≡ true → (input text : List ℕ) (status : ℕ) → Answers a input text status → p status ≡ true
answers_fit p a own ten eleven input text status (inl (inl r)) = rw r.4 ten
answers_fit p a own ten eleven input text status (inl (inr r)) = rw r.3 eleven
answers_fit p a own ten eleven input text status (inr r) = own input r.0 r.1 text status r.3

due_fits : (p : ℕ → Bool) (a : Answering) → Fits p a → p 10 ≡ true → p 11 ≡ true → p 12 ≡ true → p 14 ≡ true → p 15 ≡ true
    → (s : Sourcing) (text : List ℕ) (status : ℕ) → IsReadDue a s text status → p status ≡ true
due_fits p a own ten eleven twelve fourteen fifteen s text status (inl h) = answers_fit p a own ten eleven h.0 text status h.2
due_fits p a own ten eleven twelve fourteen fifteen s text status (inr (inl h)) = rw h.3 fourteen
due_fits p a own ten eleven twelve fourteen fifteen s text status (inr (inr (inl h))) = rw h.3 twelve
due_fits p a own ten eleven twelve fourteen fifteen s text status (inr (inr (inr h))) = rw h.3 fifteen

-- a test that holds of each status of what a form writes for a scene that has a plan
abbrev pub Meets : (ℕ → Bool) → Reading → Type 0
Meets p Canonical = p 0 ≡ true
Meets p (Run a by) = (p 0 ≡ true) × (p 3 ≡ true) × (p 4 ≡ true) × (p 5 ≡ true)
Meets p Judgement = (p 0 ≡ true) × (p 6 ≡ true)
Meets p Findings = (p 0 ≡ true) × (p 7 ≡ true)

-- a test that holds of 0, 3, 4 and 5 holds of each ending's status
ended_meets : (p : ℕ → Bool) → p 0 ≡ true → p 3 ≡ true → p 4 ≡ true → p 5 ≡ true → (e : Ending) → p (status_of e) ≡ true
ended_meets p a b c d ending.Running = a
ended_meets p a b c d ending.Finished = a
ended_meets p a b c d (ending.Fault f) = b
ended_meets p a b c d ending.Stuck = c
ended_meets p a b c d ending.Limit = d

-- and one that holds of 0 and 7 holds of each answer's of the static check
lint_meets : (p : ℕ → Bool) → p 0 ≡ true → p 7 ≡ true → (found : LintAnswer) → p (answer_status found) ≡ true
lint_meets p a b lint.Clean = a
lint_meets p a b (lint.Findings fs) = b

pub fits : (p : ℕ → Bool) (r : Reading) → Meets p r → Fits p (answering_of r)
fits p Canonical m input scene stands text status h = rw h.1 m
fits p (Run a by) m input scene stands text status h = rw h.status_is (ended_meets p m.0 m.1 m.2 m.3 _)
fits p Judgement m input scene stands text status (inl h) = rw h.3 m.0
fits p Judgement m input scene stands text status (inr h) = rw h.4 m.1
fits p Findings m input scene stands text status h = rw h.3 (lint_meets p m.0 m.1 h.0)

-- the statuses of what a form writes for a scene that has a plan
abbrev pub own_status : Reading → ℕ → Bool
own_status Canonical n = n == 0
own_status (Run a by) n = n == 0 || n == 3 || n == 4 || n == 5
own_status Judgement n = n == 0 || n == 6
own_status Findings n = n == 0 || n == 7

-- all statuses of a form that reads, beside 13
abbrev pub read_status : Reading → ℕ → Bool
read_status r n = n == 10 || n == 11 || n == 12 || n == 14 || n == 15 || own_status r n

read_meets : (r : Reading) → Meets (read_status r) r
read_meets Canonical = refl
read_meets (Run a by) = (refl, refl, refl, refl)
read_meets Judgement = (refl, refl)
read_meets Findings = (refl, refl)

pub due_status : (r : Reading) (s : Sourcing) (text : List ℕ) (status : ℕ) → IsReadDue (answering_of r) s text status → read_status r status ≡ true
due_status r = due_fits (read_status r) (answering_of r) (fits (read_status r) r (read_meets r)) refl refl refl refl refl

-- 2 and 13 are none of them
no_usage : (r : Reading) → read_status r 2 ≡ false
no_usage Canonical = refl
no_usage (Run a by) = refl
no_usage Judgement = refl
no_usage Findings = refl

no_sink : (r : Reading) → read_status r 13 ≡ false
no_sink Canonical = refl
no_sink (Run a by) = refl
no_sink Judgement = refl
no_sink Findings = refl

-- the statuses of `load N`, beside 13
abbrev pub is_load_status : ℕ → Bool
is_load_status n = n == 0 || n == 3 || n == 4 || n == 5 || n == 15

summary_fits : (p : ℕ → Bool) → p 0 ≡ true → p 3 ≡ true → p 4 ≡ true → p 5 ≡ true → p 15 ≡ true → (n : ℕ) (text : List ℕ) (status : ℕ) → IsSummary n text status → p status ≡ true
summary_fits p a b c d fifteen n text status (inl h) = rw h.status_is (ended_meets p a b c d _)
summary_fits p a b c d fifteen n text status (inr h) = rw h.1 fifteen

pub load_status : (n : ℕ) (text : List ℕ) (status : ℕ) → IsSummary n text status → is_load_status status ≡ true
load_status = summary_fits is_load_status refl refl refl refl refl

-- the statuses of the answers to a whole input
abbrev pub is_answer_status : ℕ → Bool
is_answer_status n = n == 0 || n == 3 || n == 4 || n == 5 || n == 6 || n == 7 || n == 10 || n == 11

-- those of what is written for a scene that has a plan
abbrev pub is_own_status : ℕ → Bool
is_own_status n = n == 0 || n == 3 || n == 4 || n == 5 || n == 6 || n == 7

own_meets : (r : Reading) → Meets is_own_status r
own_meets Canonical = refl
own_meets (Run a by) = (refl, refl, refl, refl)
own_meets Judgement = (refl, refl)
own_meets Findings = (refl, refl)

pub reads_own : (r : Reading) → Fits is_own_status (answering_of r)
reads_own r = fits is_own_status r (own_meets r)

-- each answer to a whole input has one of them
abbrev pub AreAnswers : Answering → Type 0
AreAnswers a = (input text : List ℕ) (status : ℕ) → Answers a input text status → is_answer_status status ≡ true

answer_meets : (r : Reading) → Meets is_answer_status r
answer_meets Canonical = refl
answer_meets (Run a by) = (refl, refl, refl, refl)
answer_meets Judgement = (refl, refl)
answer_meets Findings = (refl, refl)

pub reads_answers : (r : Reading) → AreAnswers (answering_of r)
reads_answers r = answers_fit is_answer_status (answering_of r) (fits is_answer_status r (answer_meets r)) refl refl

listed_meets : (r : Reading) → Meets is_status r
listed_meets Canonical = refl
listed_meets (Run a by) = (refl, refl, refl, refl)
listed_meets Judgement = (refl, refl)
listed_meets Findings = (refl, refl)

-- a status that fails a test isn't one that meets it
pub differs : (p : ℕ → Bool) (n status : ℕ) → p n ≡ false → p status ≡ true → status ≡ n → ⊥
differs p n status fails meets same = let z : true ≡ false = sym meets ∙ (ap p same ∙ fails) in cc

-- what is due for words has a status that the program may end with
due_listed : (v : Service) (s : Sourcing) (text : List ℕ) (status : ℕ) → IsDue v s text status → is_status status ≡ true
due_listed Usage s text status h = rw h.2 refl
due_listed (Reads r) s text status h = due_fits is_status (answering_of r) (fits is_status r (listed_meets r)) refl refl refl refl refl s text status h
due_listed (Scenario n) s text status (unread, inl h) = rw h.1 refl
due_listed (Scenario n) s text status (unread, inr h) = rw h.1 refl
due_listed (Summary n) s text status h = summary_fits is_status refl refl refl refl refl n text status h.1

-- what is due for words never has the status of a sink that failed
pub due_no_sink : (v : Service) (s : Sourcing) (text : List ℕ) (status : ℕ) → IsDue v s text status → status ≡ 13 → ⊥
due_no_sink Usage s text status h same = omega (arith, h.2)
due_no_sink (Reads r) s text status h same = differs (read_status r) 13 status (no_sink r) (due_status r s text status h) same
due_no_sink (Scenario n) s text status (unread, inl h) same = omega (arith, h.1, same)
due_no_sink (Scenario n) s text status (unread, inr h) same = omega (arith, h.1, same)
due_no_sink (Summary n) s text status h same = differs is_load_status 13 status refl (load_status n text status h.1) same

pub listed : (v : Service) (s : Sourcing) (k : Sinking) (answer : ℕ) → Tells v s k answer → IsTrue (is_status answer)
listed v s k answer (text, status, due, inl said) = rw said.0 (due_listed v s text status due)
listed v s k answer (text, status, due, inr said) = rw said.0 refl

-- 13 comes with a front of what is due
pub front_written : (v : Service) (s : Sourcing) (k : Sinking) (answer : ℕ) → Tells v s k answer → answer ≡ 13 → (text : List ℕ) × (status : ℕ) × IsDue v s text status × IsCutShort k text
front_written v s k answer (text, status, due, inl said) same = absurd (due_no_sink v s text status due (sym said.0 ∙ same))
front_written v s k answer (text, status, due, inr said) same = (text, status, due, said.1)

pub sink_rose : (v : Service) (s : Sourcing) (k : Sinking) (answer : ℕ) → Tells v s k answer → answer ≡ 13 → Rose k.faults_before k.faults_after
sink_rose v s k answer told same =
    let h : (text : List ℕ) × (status : ℕ) × IsDue v s text status × IsCutShort k text = front_written v s k answer told same in h.3.rose

-- ---- forms of words

-- a form that reads answers its input in some way
pub record IsReader (v : Service) (s : Sourcing) (k : Sinking) (answer : ℕ) : Type 1 where
  pub by : Answering
  pub part : (input : List ℕ) → by.scenario input ≡ scenario_by v input
  pub told : TellsBy by s k answer

pub reads : (v : Service) (s : Sourcing) (k : Sinking) (answer : ℕ) → IsTrue (reads_input v) → Tells v s k answer → IsReader v s k answer
reads Usage s k answer h told = absurd (let z : ⊥ = cc in z)
reads (Reads r) s k answer h told = record { by = answering_of r; part = λ input. refl; told = told }
reads (Scenario n) s k answer h told = absurd (let z : ⊥ = cc in z)
reads (Summary n) s k answer h told = absurd (let z : ⊥ = cc in z)

-- the answer of a form that reads is none that it never answers
pub reads_never : (r : Reading) (n : ℕ) (s : Sourcing) (k : Sinking) (answer : ℕ) → read_status r n ≡ false → n ≢ 13 → TellsBy (answering_of r) s k answer → answer ≡ n → ⊥
reads_never r n s k answer fails other (text, status, due, inl said) same = differs (read_status r) n status fails (due_status r s text status due) (sym said.0 ∙ same)
reads_never r n s k answer fails other (text, status, due, inr said) same = other (sym same ∙ said.0)

-- nor is it the usage line's
pub reads_no_usage : (r : Reading) (s : Sourcing) (k : Sinking) (answer : ℕ) → TellsBy (answering_of r) s k answer → answer ≡ 2 → ⊥
reads_no_usage r s k answer = reads_never r 2 s k answer (no_usage r) (λ h. omega arith)

-- words of no form answer 2 or 13
pub usage_answers : (s : Sourcing) (k : Sinking) (answer : ℕ) → Tells Usage s k answer → (answer ≡ 2) ⊎ (answer ≡ 13)
usage_answers s k answer (text, status, due, inl said) = inl (said.0 ∙ due.2)
usage_answers s k answer (text, status, due, inr said) = inr said.0

pub summary_never : (m n : ℕ) (s : Sourcing) (k : Sinking) (answer : ℕ) → is_load_status n ≡ false → n ≢ 13 → Tells (Summary m) s k answer → answer ≡ n → ⊥
summary_never m n s k answer fails other (text, status, due, inl said) same = differs is_load_status n status fails (load_status m text status due.1) (sym said.0 ∙ same)
summary_never m n s k answer fails other (text, status, due, inr said) same = other (sym same ∙ said.0)

-- a generated scenario is answered with 0, 15 or 13
pub scenario_answers : (n : ℕ) (s : Sourcing) (k : Sinking) (answer : ℕ) → Tells (Scenario n) s k answer → (answer ≡ 0) ⊎ ((answer ≡ 15) ⊎ (answer ≡ 13))
scenario_answers n s k answer (text, status, (unread, inl h), inl said) = inl (said.0 ∙ h.1)
scenario_answers n s k answer (text, status, (unread, inr h), inl said) = inr (inl (said.0 ∙ h.1))
scenario_answers n s k answer (text, status, due, inr said) = inr (inr said.0)

-- and with nothing else
fourth : (answer n : ℕ) → (answer ≡ 0) ⊎ ((answer ≡ 15) ⊎ (answer ≡ 13)) → 0 ≢ n → 15 ≢ n → 13 ≢ n → answer ≡ n → ⊥
fourth answer n (inl h) x y z same = x (sym h ∙ same)
fourth answer n (inr (inl h)) x y z same = y (sym h ∙ same)
fourth answer n (inr (inr h)) x y z same = z (sym h ∙ same)

pub scenario_never : (m n : ℕ) (s : Sourcing) (k : Sinking) (answer : ℕ) → 0 ≢ n → 15 ≢ n → 13 ≢ n → Tells (Scenario m) s k answer → answer ≡ n → ⊥
scenario_never m n s k answer x y z told same = fourth answer n (scenario_answers m s k answer told) x y z same

-- an answer that is one of two numbers is no third
pub third : (answer a b n : ℕ) → (answer ≡ a) ⊎ (answer ≡ b) → a ≢ n → b ≢ n → answer ≡ n → ⊥
third answer a b n (inl h) x y same = x (sym h ∙ same)
third answer a b n (inr h) x y same = y (sym h ∙ same)
