-- The words that `kmdfhunt` serves. (own)
use Rattle.std.specs.Prelude.{if◌then◌else◌, ℕ, ◌+◌, ◌^◌, ◌&&◌, nat_lt, nat_le, Bool, List, [], ◌∷◌, Option, Some, None, bytes_eq, codes}
use Rattle.std.specs.Option.{option_and_then}
use Rattle.wdf_top.specs.Words.{number_word}
use Rattle.wdf_jitter.specs.declared.moved.TheConstants.{LAST_TICK}
use Rattle.wdf_hunt.specs.declared.words.Form.{Form}
use Rattle.wdf_hunt.specs.declared.words.Form.TheVariants.{Seeds, Shrink, Sum, Explain}
use Rattle.wdf_hunt.specs.declared.words.Range.{Range}

-- a range of seeds: one at least and less than 2 ^ 32, and none of them past the last seed
abbrev pub is_range : ℕ → ℕ → Bool
is_range from count = nat_lt 0 count && nat_lt count (2 ^ 32) && nat_le (from + count) (2 ^ 64)

abbrev pub seeds_form : ℕ → ℕ → ℕ → Option Form
seeds_form from count jitter = if is_range from count then Some (Seeds from count jitter) else None

-- the form of one word alone
abbrev pub form_of_word : List ℕ → Option Form
form_of_word word =
    if bytes_eq word (codes "sum") then Some Sum
    else (if bytes_eq word (codes "explain") then Some Explain
    else None)

-- the form of a word with a number and a jitter after it
abbrev pub form_with_number : List ℕ → ℕ → ℕ → Option Form
form_with_number word n jitter = if bytes_eq word (codes "shrink") then Some (Shrink n jitter) else None

-- the form of a word with two numbers and a jitter after it
abbrev pub form_with_numbers : List ℕ → ℕ → ℕ → ℕ → Option Form
form_with_numbers word n m jitter = if bytes_eq word (codes "seeds") then seeds_form n m jitter else None

-- so many ticks after the word `jitter`: no more than a line may name
abbrev pub jitter_of : List ℕ → ℕ → Option ℕ
jitter_of word n = if bytes_eq word (codes "jitter") && nat_le n LAST_TICK then Some n else None

-- what two words say of it, if they do
abbrev pub jitter_in : List ℕ → List ℕ → Option ℕ
jitter_in word most = option_and_then (jitter_of word) (number_word most)

-- the form that the words ask for, if they are one
abbrev pub form_of_words : List (List ℕ) → Option Form
form_of_words (word ∷ []) = form_of_word word
form_of_words (word ∷ number ∷ []) = option_and_then (λ n. form_with_number word n 0) (number_word number)
form_of_words (word ∷ from ∷ count ∷ []) = option_and_then (λ n. option_and_then (λ m. form_with_numbers word n m 0) (number_word count)) (number_word from)
form_of_words (word ∷ number ∷ jitter ∷ most ∷ []) = option_and_then (λ n. option_and_then (form_with_number word n) (jitter_in jitter most)) (number_word number)
form_of_words (word ∷ from ∷ count ∷ jitter ∷ most ∷ []) =
    option_and_then (λ n. option_and_then (λ m. option_and_then (form_with_numbers word n m) (jitter_in jitter most)) (number_word count)) (number_word from)
form_of_words _ = None

-- ---- suites

-- the seeds of a suite that names none
abbrev pub usual_range : Range
usual_range = record { from = 0; count = 100 }

-- the seeds that two numbers name, if they are a range
abbrev pub range_of : ℕ → ℕ → Option Range
range_of from count = if is_range from count then Some (record { from = from; count = count }) else None

-- a suite is asked for by the word `test`
abbrev pub suite_with : List ℕ → Option Range → Option Range
suite_with word range = if bytes_eq word (codes "test") then range else None

-- Over which seeds the words ask for a suite, if they do: `test FOLDER`, with a range of seeds or without.
abbrev pub suite_of_words : List (List ℕ) → Option Range
suite_of_words (word ∷ folder ∷ []) = suite_with word (Some usual_range)
suite_of_words (word ∷ folder ∷ from ∷ count ∷ []) =
    option_and_then (λ n. option_and_then (λ m. suite_with word (range_of n m)) (number_word count)) (number_word from)
suite_of_words _ = None
