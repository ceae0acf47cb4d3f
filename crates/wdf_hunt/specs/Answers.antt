-- What `kmdfhunt` answers, and what it writes. (own)
use Rattle.std.specs.Prelude.{ℕ, ◌≡◌, ◌++◌, ◌⊎◌, List, codes, decimal, Option, Some, None, Result, Ok, Err}
use Rattle.wdf_scene.specs.declared.scene.Scene.{Scene}
use Rattle.wdf_expect.specs.declared.rules.Expectation.{Expectation}
use Rattle.wdf_expect.specs.Reading.{expectations_of}
use Rattle.wdf_output.specs.Refusals.{no_memory_line}
use Rattle.wdf_output.specs.Said.{Sinking, Says}
use Rattle.wdf_top.specs.Answers.{Answering}
use Rattle.wdf_top.specs.Top.{Sourcing, IsUnread, TellsBy}
use Rattle.wdf_table.specs.declared.row.Row.{Row}
use Rattle.wdf_table.specs.Tables.{IsTableOf}
use Rattle.wdf_table.specs.Lines.{table_text, table_status}
use Rattle.wdf_tries.specs.declared.tried.Case.{Case}
use Rattle.wdf_tries.specs.Tries.{AreTries, events_of, moved_case, scene_for}
use Rattle.wdf_shrink.specs.Stories.{IsStoryOfSeed}
use Rattle.wdf_shrink.specs.Texts.{story_text}
use Rattle.wdf_hunt.specs.Explained.{explaining}
use Rattle.wdf_hunt.specs.Sums.{TellsSum}
use Rattle.wdf_hunt.specs.declared.words.Form.{Form}
use Rattle.wdf_hunt.specs.declared.words.Form.TheVariants.{Seeds, Shrink, Sum, Explain}

abbrev pub usage_line : List ℕ
usage_line = codes "usage: kmdfhunt seeds FROM COUNT [jitter TICKS] [--no-progress] | shrink N [jitter TICKS] | test FOLDER [FROM COUNT] | sum | explain\n"

-- the line of a comment that begins with `#!` and can't be read
abbrev pub unread_line : ℕ → List ℕ
unread_line line = codes "expect refused at line " ++ decimal line ++ codes ": BadLine\n"

-- The table of the kinds of a case's runs by the seeds of a range: a row for each kind, in order, the last line, and the
-- status.
pub record IsTableText (tried : Case) (from count : ℕ) (text : List ℕ) (status : ℕ) : Type 0 where
  pub tries : List Row
  pub are : AreTries tried from count tries
  pub rows : List Row
  pub table : IsTableOf tries rows
  pub text_is : text ≡ table_text rows from count (events_of tries)
  pub status_is : status ≡ table_status rows

-- The story of a seed: the scene that it runs with picks whose run is of the kind of the seed's run, and has no more events.
pub record IsStoryText (tried : Case) (seed : ℕ) (text : List ℕ) (status : ℕ) : Type 0 where
  pub picks : List ℕ
  pub story : IsStoryOfSeed (moved_case tried seed) seed picks
  pub text_is : text ≡ story_text (scene_for tried seed) picks
  pub status_is : status ≡ 0

-- what becomes of a scene that has a plan: the text that is due, with its status, or the line `out of memory`; or a front of either
abbrev pub TellsDue : (List ℕ → ℕ → Type 0) → Sinking → ℕ → Type 0
TellsDue Due k answer = (text : List ℕ) × (status : ℕ) × (Due text status ⊎ ((text ≡ no_memory_line) × (status ≡ 15))) × Says k text status answer

-- what is due of a scene and of the expectations of its text, where they can be read
abbrev pub IsDueOf : (Case → List ℕ → ℕ → Type 0) → Scene → Result (List Expectation) ℕ → List ℕ → ℕ → Type 0
IsDueOf Due scene (Ok es) text status = Due (record { scene = scene; expectations = es; jitter = 0 }) text status
IsDueOf Due scene (Err line) text status = (text ≡ unread_line line) × (status ≡ 10)

-- what is written for the case of the whole input
abbrev pub writing : (Case → List ℕ → ℕ → Type 0) → Answering
writing Due = record {
  scenario = λ input. input;
  writes = λ input scenario scene stands text status. IsDueOf Due scene (expectations_of input) text status;
}

-- a case with so many ticks by which a seed may move a line
abbrev pub with_jitter : ℕ → Case → Case
with_jitter jitter tried = record tried { jitter = jitter }

-- `seeds FROM COUNT jitter TICKS` writes the table of the input's case; without `jitter` the ticks are 0
abbrev pub seeking : ℕ → ℕ → ℕ → Answering
seeking from count jitter = writing (λ tried text status. IsTableText (with_jitter jitter tried) from count text status)

-- `shrink N jitter TICKS` writes the story of a seed
abbrev pub shrinking : ℕ → ℕ → Answering
shrinking seed jitter = writing (λ tried text status. IsStoryText (with_jitter jitter tried) seed text status)

-- What is answered and what is written for a form of words: what is due, with its status, or a front of it.
abbrev pub Tells : Option Form → Sourcing → Sinking → ℕ → Type 0
Tells None s k answer = IsUnread s × Says k usage_line 2 answer
Tells (Some (Seeds from count jitter)) s k answer = TellsBy (seeking from count jitter) s k answer
Tells (Some (Shrink seed jitter)) s k answer = TellsBy (shrinking seed jitter) s k answer
Tells (Some Sum) s k answer = TellsSum s k answer
Tells (Some Explain) s k answer = TellsBy explaining s k answer
