-- What is expected, as the comments of a text say it. (own)
use Rattle.std.specs.Prelude.{if◌then◌else◌, ◌≡◌, ℕ, suc, ◌+◌, ◌==◌, ◌&&◌, Bool, not, List, [], ◌∷◌, ◌++◌, bytes_eq, codes, drop, length, nat_eq, option_map, position, take, Option, Some, None, Result, Ok, Err}
use Rattle.std.specs.Char.{is_ascii_digit}
use Rattle.std.specs.List.{filter, list_all, slice_split, starts_with, take_while}
use Rattle.wdf_base.specs.declared.event.Fault.{Fault}
use Rattle.wdf_base.specs.Words.{fault_of}
use Rattle.wdf_text.specs.Decimals.{small_number}
use Rattle.wdf_tokens.specs.Tokens.{is_blank, lines_of}
use Rattle.wdf_expect.specs.declared.rules.Wanted.{Wanted}
use Rattle.wdf_expect.specs.declared.rules.Wanted.TheVariants as wanted
use Rattle.wdf_expect.specs.declared.rules.Rule.{Rule}
use Rattle.wdf_expect.specs.declared.rules.Rule.TheVariants as rule
use Rattle.wdf_expect.specs.declared.rules.Expectation.{Expectation}
use Rattle.wdf_expect.specs.declared.rules.Comment.{Comment}
use Rattle.wdf_expect.specs.declared.rules.Comment.TheVariants as comment
use Rattle.wdf_expect.specs.declared.reading.ExpectError.{ExpectError}
use Rattle.wdf_expect.specs.declared.reading.ExpectError.TheVariants as error

-- ---- rules, by their words

-- `finished`, `limit` or `stuck`
abbrev pub plain_wanted : List ℕ → Option Wanted
plain_wanted word =
    if bytes_eq word (codes "finished") then Some wanted.Finished
    else (if bytes_eq word (codes "limit") then Some wanted.Limit
    else (if bytes_eq word (codes "stuck") then Some wanted.Stuck
    else None))

-- `fault NAME`
abbrev pub fault_wanted : List ℕ → List ℕ → Option Wanted
fault_wanted word name = if bytes_eq word (codes "fault") then option_map wanted.Fault (fault_of name) else None

-- the number that a word of digits writes, below 2 ^ 64
abbrev pub number_in : List ℕ → Option ℕ
number_in word = if list_all is_ascii_digit word then small_number word else None

abbrev pub fault_at : Option Fault → Option ℕ → Option Wanted
fault_at (Some fault) (Some line) = Some (wanted.FaultAt fault line)
fault_at None line = None
fault_at (Some fault) None = None

-- `fault NAME at line L`
abbrev pub placed_wanted : List ℕ → List ℕ → List ℕ → List ℕ → List ℕ → Option Wanted
placed_wanted word name at line number =
    if bytes_eq word (codes "fault") && bytes_eq at (codes "at") && bytes_eq line (codes "line") then fault_at (fault_of name) (number_in number)
    else None

-- the ending that words ask for
abbrev pub wanted_in : List (List ℕ) → Option Wanted
wanted_in (word ∷ []) = plain_wanted word
wanted_in (word ∷ name ∷ []) = fault_wanted word name
wanted_in (word ∷ name ∷ at ∷ line ∷ number ∷ []) = placed_wanted word name at line number
wanted_in _ = None

-- a pattern has a word at least
abbrev pub pattern_in : List (List ℕ) → Option (List (List ℕ))
pattern_in [] = None
pattern_in (word ∷ ws) = Some (word ∷ ws)

abbrev pub both_in : Option (List (List ℕ)) → Option (List (List ℕ)) → Option Rule
both_in (Some first) (Some next) = Some (rule.After first next)
both_in None next = None
both_in (Some first) None = None

-- two patterns, with a word between them at this place
abbrev pub after_in : Option ℕ → List (List ℕ) → Option Rule
after_in None ws = None
after_in (Some place) ws = both_in (pattern_in (take place ws)) (pattern_in (drop (place + 1) ws))

abbrev pub is_comes : List ℕ → Bool
is_comes word = bytes_eq word (codes "comes")

-- the rule that a word and the words after it give
abbrev pub rule_with : List ℕ → List (List ℕ) → Option Rule
rule_with word ws =
    if bytes_eq word (codes "expect") then option_map rule.Expect (wanted_in ws)
    else (if bytes_eq word (codes "never") then option_map rule.Never (pattern_in ws)
    else (if bytes_eq word (codes "once") then option_map rule.Once (pattern_in ws)
    else (if bytes_eq word (codes "after") then after_in (position is_comes ws) ws
    else None)))

-- The rule that words give, if they give one: `expect ENDING`, `never PATTERN`, `once PATTERN`, or `after PATTERN comes PATTERN`.
abbrev pub rule_in : List (List ℕ) → Option Rule
rule_in [] = None
rule_in (word ∷ ws) = rule_with word ws

-- ---- comments

-- a byte before a comment, which begins with `#`
abbrev pub is_code : ℕ → Bool
is_code b = not (b == 35)

-- the comment of a line, from its `#` on; nothing where it has none
abbrev pub comment_in : List ℕ → List ℕ
comment_in line = drop (length (take_while is_code line)) line

-- a word has bytes
abbrev pub is_some_word : List ℕ → Bool
is_some_word word = not (length word == 0)

-- the words of a text: what is between its blanks
abbrev pub words_in : List ℕ → List (List ℕ)
words_in text = filter is_some_word (slice_split is_blank text)

abbrev pub comment_with : Option Rule → Comment
comment_with None = comment.Unread
comment_with (Some r) = comment.Expects r

-- what a comment says: one that begins with `#!` is a rule, or can't be read; the others say nothing
abbrev pub comment_of : List ℕ → Comment
comment_of text = if starts_with nat_eq text (codes "#!") then comment_with (rule_in (words_in (drop 2 text))) else comment.Plain

-- ---- texts

abbrev pub with_rule : ℕ → Rule → Result (List Expectation) ℕ → Result (List Expectation) ℕ
with_rule number r (Ok es) = Ok (record { line = number; rule = r } ∷ es)
with_rule number r (Err line) = Err line

-- what a line says, in front of what the lines after it say
abbrev pub with_comment : ℕ → Comment → Result (List Expectation) ℕ → Result (List Expectation) ℕ
with_comment number comment.Plain rest = rest
with_comment number comment.Unread rest = Err number
with_comment number (comment.Expects r) rest = with_rule number r rest

-- the expectations of lines, the first of which has this number
abbrev pub expectations_from : ℕ → List (List ℕ) → Result (List Expectation) ℕ
expectations_from number [] = Ok []
expectations_from number (line ∷ lines) = with_comment number (comment_of (comment_in line)) (expectations_from (suc number) lines)

-- The expectations of a text, in their order; or the number of its first line with a comment `#!` that can't be read.
unfoldable pub expectations_of : List ℕ → Result (List Expectation) ℕ
expectations_of text = expectations_from 1 (lines_of text)

-- ---- errors

-- what an error says of a text: nothing for out of memory, else the number of the line
abbrev pub IsErrorOf : Result (List Expectation) ℕ → ExpectError → Type 0
IsErrorOf r error.Memory = Unit {0}
IsErrorOf r (error.Unread line) = r ≡ Err line

-- those of some lines, and those of the lines after them
abbrev pub after_found : List Expectation → Result (List Expectation) ℕ → Result (List Expectation) ℕ
after_found es (Ok rest) = Ok (es ++ rest)
after_found es (Err line) = Err line
