-- The expectations of a text, line by line.
use Rattle.std.proofs.Common.{ℕ, suc, ◌≡◌, ◌+◌, ◌-◌, ◌<◌, ◌≤◌, List, [], ◌∷◌, ◌++◌, Result, Ok, Err, drop, length, take, refl, subst, sym, ap, ◌∙◌, arith, append_assoc}
use Rattle.std.specs.List.{take_while}
use Rattle.wdf_tokens.specs.Tokens.{is_inside, lines_of}
use Rattle.wdf_parse.proofs.LinesTaken.{line_there, lines_there}
use Rattle.wdf_expect.specs.declared.rules.Expectation.{Expectation}
use Rattle.wdf_expect.specs.declared.rules.Rule.{Rule}
use Rattle.wdf_expect.specs.declared.reading.ExpectError.{ExpectError}
use Rattle.wdf_expect.specs.declared.reading.ExpectError.TheVariants as error
use Rattle.wdf_expect.specs.Reading.{IsErrorOf, after_found, comment_in, comment_of, expectations_from, with_comment, with_rule}

-- nothing was found before
pub found_none : (r : Result (List Expectation) ℕ) → after_found [] r ≡ r
found_none (Ok es) = refl
found_none (Err line) = refl

-- an expectation more
pub found_more : (es : List Expectation) (number : ℕ) (r : Rule) (rest : Result (List Expectation) ℕ)
    → after_found es (with_rule number r rest) ≡ after_found (es ++ record { line = number; rule = r } ∷ []) rest
found_more es number r (Ok more) = ap Ok (sym (append_assoc es (record { line = number; rule = r } ∷ []) more))
found_more es number r (Err line) = refl

-- What was found up to a place of a text, where the next line has this number.
pub record IsFoundTo (text : List ℕ) (at number : ℕ) (es : List Expectation) : Type 0 where
  pub found : expectations_from 1 (lines_of text) ≡ after_found es (expectations_from number (lines_of (drop at text)))
  pub few : number ≤ at + 1

-- the line at a place, and the lines after it
found_here : (text : List ℕ) (at number len : ℕ) (es : List Expectation) → IsFoundTo text at number es → at < length text
    → len ≡ length (take_while is_inside (take (length text - at) (drop at text)))
    → expectations_from 1 (lines_of text)
    ≡ after_found es (with_comment number (comment_of (comment_in (take len (take (length text - at) (drop at text))))) (expectations_from (suc number) (lines_of (drop (at + (len + 1)) text))))
found_here text at number len es so_far inside long =
    so_far.found ∙ ap (λ ls. after_found es (expectations_from number ls)) (lines_there text at len inside long)
    ∙ ap (λ l. after_found es (with_comment number (comment_of (comment_in l)) (expectations_from (suc number) (lines_of (drop (at + (len + 1)) text))))) (sym (line_there text at len long))

-- one line more
pub found_next : (text : List ℕ) (at number len : ℕ) (es more : List Expectation) → IsFoundTo text at number es → at < length text
    → len ≡ length (take_while is_inside (take (length text - at) (drop at text)))
    → ((rest : Result (List Expectation) ℕ) → after_found es (with_comment number (comment_of (comment_in (take len (take (length text - at) (drop at text))))) rest) ≡ after_found more rest)
    → IsFoundTo text (at + (len + 1)) (number + 1) more
found_next text at number len es more so_far inside long taken =
    let next : suc number ≡ number + 1 = omega arith in
    let rest = lines_of (drop (at + (len + 1)) text) in record {
      found = found_here text at number len es so_far inside long ∙ taken (expectations_from (suc number) rest) ∙ ap (λ n. after_found more (expectations_from n rest)) next;
      few = omega (arith, so_far.few);
    }

error_passes : (es : List Expectation) (r : Result (List Expectation) ℕ) (e : ExpectError) → IsErrorOf r e → IsErrorOf (after_found es r) e
error_passes es r error.Memory is = tt
error_passes es r (error.Unread line) is = ap (after_found es) is

-- a line that can't be read
pub found_error : (text : List ℕ) (at number len : ℕ) (es : List Expectation) (e : ExpectError) → IsFoundTo text at number es → at < length text
    → len ≡ length (take_while is_inside (take (length text - at) (drop at text)))
    → ((rest : Result (List Expectation) ℕ) → IsErrorOf (with_comment number (comment_of (comment_in (take len (take (length text - at) (drop at text))))) rest) e)
    → IsErrorOf (expectations_from 1 (lines_of text)) e
found_error text at number len es e so_far inside long refused =
    let rest = expectations_from (suc number) (lines_of (drop (at + (len + 1)) text)) in
    subst (λ (r : Result (List Expectation) ℕ). IsErrorOf r e) (sym (found_here text at number len es so_far inside long)) (error_passes es _ e (refused rest))
