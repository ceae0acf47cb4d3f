-- A case that was read from an input, and why none was. (own)
use Rattle.std.specs.Prelude.{ℕ, ◌≡◌, List, None, Ok, Err}
use Rattle.wdf_scene.specs.declared.scene.Scene.{Scene}
use Rattle.wdf_parse.specs.StandsFor.{StandsFor}
use Rattle.wdf_refusals.specs.First.{first_refusal}
use Rattle.wdf_top.specs.Causes.{IsCause, all_of}
use Rattle.wdf_top.specs.Top.{Sourcing, IsRead}
use Rattle.wdf_output.specs.Refusals.{refusal_line, refusal_status}
use Rattle.wdf_expect.specs.Reading.{expectations_of}
use Rattle.wdf_tries.specs.declared.tried.Case.{Case}
use Rattle.wdf_hunt.specs.declared.read.CaseRefusal.{CaseRefusal}
use Rattle.wdf_hunt.specs.declared.read.CaseRefusal.TheVariants.{Scenario, Unread}
use Rattle.wdf_hunt.specs.Answers.{unread_line}

-- a scene that has a plan was read from an input
abbrev pub IsReadScene : Sourcing → List ℕ → Scene → Type 0
IsReadScene s input scene = IsRead s input × StandsFor input scene × (first_refusal scene ≡ None)

-- a case was read: a scene that has a plan, with the expectations of its text, and nothing to move
abbrev pub IsReadCase : Sourcing → Case → Type 0
IsReadCase s tried = (input : List ℕ) × IsReadScene s input tried.scene × (expectations_of input ≡ Ok tried.expectations) × (tried.jitter ≡ 0)

-- none was: the input has no plan, or a comment of it can't be read
abbrev pub IsCaseRefusal : Sourcing → CaseRefusal → Type 0
IsCaseRefusal s (Scenario refusal) = IsCause all_of s refusal
IsCaseRefusal s (Unread line) = (input : List ℕ) × (scene : Scene) × IsReadScene s input scene × (expectations_of input ≡ Err line)

-- what is written of a refusal, and its status
abbrev pub case_refusal_line : CaseRefusal → List ℕ
case_refusal_line (Scenario refusal) = refusal_line refusal
case_refusal_line (Unread line) = unread_line line

abbrev pub case_refusal_status : CaseRefusal → ℕ
case_refusal_status (Scenario refusal) = refusal_status refusal
case_refusal_status (Unread line) = 10
