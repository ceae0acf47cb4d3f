-- What is written of an answer of the static check, and with which status. (own)
use Rattle.std.specs.Prelude.{ℕ, zero, suc, ◌++◌, List, [], ◌∷◌, codes, decimal}
use Rattle.wdf_lint.specs.Findings.{Finding}
use Rattle.wdf_lint.specs.declared.static_check.LintAnswer.{LintAnswer}
use Rattle.wdf_lint.specs.declared.static_check.LintAnswer.TheVariants as answer

-- the lines of a path, a space before each
abbrev pub path_text : List ℕ → List ℕ
path_text [] = []
path_text (line ∷ path) = codes " " ++ decimal line ++ path_text path

-- the path of a finding; rule 0, of a callback that is too big, has none
abbrev pub way_text : ℕ → List ℕ → List ℕ
way_text zero path = []
way_text (suc rule) path = codes " path" ++ path_text path

-- the line of a finding: where it is, the rule that is broken, and the path to it
abbrev pub finding_text : Finding → List ℕ
finding_text f = codes "line " ++ decimal f.line ++ codes " rule " ++ decimal f.rule ++ way_text f.rule f.path ++ codes "\n"

-- a line for each finding
abbrev pub finding_lines : List Finding → List ℕ
finding_lines [] = []
finding_lines (f ∷ fs) = finding_text f ++ finding_lines fs

-- What is written of an answer.
abbrev pub answer_text : LintAnswer → List ℕ
answer_text answer.Clean = codes "clean\n"
answer_text (answer.Findings fs) = finding_lines fs

-- The status with it.
abbrev pub answer_status : LintAnswer → ℕ
answer_status answer.Clean = 0
answer_status (answer.Findings fs) = 7
