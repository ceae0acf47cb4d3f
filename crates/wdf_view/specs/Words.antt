-- The words that `kmdfview` serves. (own)
use Rattle.std.specs.Prelude.{if◌then◌else◌, ℕ, List, [], ◌∷◌, Option, Some, None, codes}
use Rattle.std.specs.Str.{bytes_eq}
use Rattle.wdf_view.specs.declared.words.Form.{Form}
use Rattle.wdf_view.specs.declared.words.Form.TheVariants.{Html, Perfetto}

-- the form that a word asks for, if it is one
abbrev pub form_of_word : List ℕ → Option Form
form_of_word word =
    if bytes_eq word (codes "html") then Some Html
    else if bytes_eq word (codes "perfetto") then Some Perfetto
    else None

-- the form that the words ask for, if they are one
abbrev pub form_of_words : List (List ℕ) → Option Form
form_of_words [] = None
form_of_words (word ∷ []) = form_of_word word
form_of_words (word ∷ other ∷ others) = None
