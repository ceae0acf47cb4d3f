-- The words that the top call without threads serves.
use Rattle.std.specs.Prelude.{ℕ, List, [], ◌∷◌, length, Option, Some, None, if◌then◌else◌, ◌&&◌, nat_le, codes}
use Rattle.std.specs.List.{list_all}
use Rattle.std.specs.Str.{bytes_eq}
use Rattle.std.specs.Option.{option_and_then}
use Rattle.std.specs.Char.{is_ascii_digit}
use Rattle.wdf_top.specs.declared.words.Form.{Form}
use Rattle.wdf_top.specs.declared.words.Form.TheVariants.{Check, Order, Seed, Replay, Gen, Load, Idle, Stack, Lint}
use Rattle.wdf_text.specs.Decimals.{small_number}

-- the form of one word alone
abbrev pub form_of_word : List ℕ → Option Form
form_of_word word =
    if bytes_eq word (codes "check") then Some Check
    else (if bytes_eq word (codes "order") then Some Order
    else (if bytes_eq word (codes "replay") then Some Replay
    else (if bytes_eq word (codes "idle") then Some Idle
    else (if bytes_eq word (codes "stack") then Some Stack
    else (if bytes_eq word (codes "lint") then Some Lint
    else None)))))

-- the form of a word with a number after it
abbrev pub form_with_number : List ℕ → ℕ → Option Form
form_with_number word n =
    if bytes_eq word (codes "seed") then Some (Seed n)
    else (if bytes_eq word (codes "gen") then Some (Gen n)
    else (if bytes_eq word (codes "load") then Some (Load n)
    else None))

-- the number that one to twenty decimal digits write, below 2 ^ 64
abbrev pub number_word : List ℕ → Option ℕ
number_word word =
    if nat_le 1 (length word) && nat_le (length word) 20 && list_all is_ascii_digit word then small_number word
    else None

-- the form that the words ask for, if they are one
abbrev pub form_of_words : List (List ℕ) → Option Form
form_of_words [] = None
form_of_words (word ∷ []) = form_of_word word
form_of_words (word ∷ number ∷ []) = option_and_then (form_with_number word) (number_word number)
form_of_words (word ∷ number ∷ other ∷ others) = None
