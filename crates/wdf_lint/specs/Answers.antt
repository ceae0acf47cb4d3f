-- The answer of `lint`. (own)
use Rattle.std.specs.Prelude.{◌≢◌, ℕ, []}
use Rattle.wdf_base.specs.declared.plan.Plan.{Plan}
use Rattle.wdf_lint.specs.declared.static_check.LintAnswer.{LintAnswer}
use Rattle.wdf_lint.specs.declared.static_check.LintAnswer.TheVariants as answer
use Rattle.wdf_lint.specs.Findings.{IsBig, IsFindings}
use Rattle.wdf_lint.specs.Walks.{IsClean}

-- Clean where no state that a walk comes to breaks a rule, and no callback is too big; else all findings, of which there is one.
abbrev pub IsAnswer : Plan → LintAnswer → Type 0
IsAnswer plan answer.Clean = IsClean plan × ((k : ℕ) → IsBig plan k → ⊥)
IsAnswer plan (answer.Findings fs) = (fs ≢ []) × IsFindings plan fs
