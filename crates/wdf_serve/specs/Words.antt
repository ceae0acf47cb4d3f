-- What the words ask for, `run` and `watch` among them. (own)
use Rattle.std.specs.Prelude.{ℕ, Bool, true, false, ◌||◌, List, [], ◌∷◌, Option, codes}
use Rattle.std.specs.Str.{bytes_eq}
use Rattle.wdf_top.specs.Agents.{Usual}
use Rattle.wdf_top.specs.Answers.{Freely, Run}
use Rattle.wdf_top.specs.declared.words.Form.{Form}
use Rattle.wdf_top.specs.Top.{Service, Reads, service_of}
use Rattle.wdf_top.specs.Words.{form_of_words}

-- the words are `run` alone or `watch` alone: a run that threads make
abbrev pub is_threaded : List (List ℕ) → Bool
is_threaded [] = false
is_threaded (word ∷ []) = bytes_eq word (codes "run") || bytes_eq word (codes "watch")
is_threaded (word ∷ other ∷ others) = false

-- what they ask for: for `run` and for `watch` a run of the input's plan that threads make, else what their form asks for
abbrev pub service_as : Bool → Option Form → Service
service_as true form = Reads (Run Usual Freely)
service_as false form = service_of form

-- What the words ask for.
abbrev pub service_for : List (List ℕ) → Service
service_for words = service_as (is_threaded words) (form_of_words words)
