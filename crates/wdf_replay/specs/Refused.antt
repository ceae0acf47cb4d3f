-- What is written of a trace that is refused. (own)
use Rattle.std.specs.Prelude.{◌++◌, ℕ, List, codes, decimal}
use Rattle.wdf_replay.specs.declared.verdict.Why.{Why}
use Rattle.wdf_replay.specs.declared.verdict.Why.TheVariants as why

-- the word of a reason
abbrev pub why_word : Why → List ℕ
why_word why.NotALine = codes "NotALine"
why_word why.NotReady = codes "NotReady"
why_word why.WrongEnding = codes "WrongEnding"
why_word why.Missing = codes "Missing"

-- the line of a trace of which this line is refused
abbrev pub refused_line : ℕ → Why → List ℕ
refused_line line y = codes "refused at line " ++ decimal line ++ codes ": " ++ why_word y ++ codes "\n"
