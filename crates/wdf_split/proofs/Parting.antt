-- The lines before a place have no line `trace`.
use Rattle.std.proofs.Common.{ℕ, ◌≡◌, ◌+◌, ◌<◌, ◌≤◌, true, false, List, [], ◌∷◌, ◌++◌, length, drop, take, refl, sym, ap, ◌∙◌, arith, append_assoc}
use Rattle.std.proofs.lemmas.List.{append-nil, drop_all, length-take-le, take-append-drop}
use Rattle.std.proofs.Math.Seq.{take-append_seam, take-append-add}
use Rattle.wdf_run_text.specs.Lines.{trace_lines, first_line, joined_lines}
use Rattle.wdf_run_text.proofs.Cutting.{line_there, lines_join}
use Rattle.wdf_split.specs.Inputs.{is_mark, before_mark, after_mark, scenario_in, trace_in}

-- the lines before the place are of the scenario
pub record IsAt (input : List ℕ) (at : ℕ) : Type 0 where
  pub within : at ≤ length input
  pub scenario : scenario_in input ≡ take at input ++ joined_lines (before_mark (trace_lines (drop at input)))
  pub trace : trace_in input ≡ joined_lines (after_mark (trace_lines (drop at input)))

pub at_opens : (input : List ℕ) → IsAt input 0
unfolding scenario_in trace_in
at_opens input = record {
  within = omega arith;
  scenario = refl;
  trace = refl;
}

-- the line at the place
there : (input line : List ℕ) (at : ℕ) → at < length input → line ≡ first_line (drop at input)
    → trace_lines (drop at input) ≡ line ∷ trace_lines (drop (at + length line) input)
there input line at inside is = rw is (line_there input at inside)

before_other : (line : List ℕ) (lines : List (List ℕ)) → is_mark line ≡ false → joined_lines (before_mark (line ∷ lines)) ≡ line ++ joined_lines (before_mark lines)
before_other line lines other = rw other refl

after_other : (line : List ℕ) (lines : List (List ℕ)) → is_mark line ≡ false → joined_lines (after_mark (line ∷ lines)) ≡ joined_lines (after_mark lines)
after_other line lines other = rw other refl

before_here : (line : List ℕ) (lines : List (List ℕ)) → is_mark line ≡ true → joined_lines (before_mark (line ∷ lines)) ≡ []
before_here line lines is = rw is refl

after_here : (line : List ℕ) (lines : List (List ℕ)) → is_mark line ≡ true → joined_lines (after_mark (line ∷ lines)) ≡ joined_lines lines
after_here line lines is = rw is refl

-- the bytes up to the line's end
taken_line : (input line : List ℕ) (at : ℕ) → at < length input → line ≡ first_line (drop at input) → take (at + length line) input ≡ take at input ++ line
taken_line input line at inside is =
    let rest = trace_lines (drop (at + length line) input) in
    let cut : line ++ joined_lines rest ≡ drop at input = sym (ap joined_lines (there input line at inside is)) ∙ lines_join (drop at input) in
    let count : length (take at input) ≡ at = length-take-le at input (omega (arith, inside)) in
    let whole : take (length (take at input) + length line) (take at input ++ drop at input) ≡ take at input ++ take (length line) (drop at input) = take-append-add (take at input) (drop at input) (length line) in
    let first : take (length line) (drop at input) ≡ line = ap (take (length line)) (sym cut) ∙ take-append_seam line (joined_lines rest) in
    ap (λ n. take (n + length line) input) (sym count)
    ∙ ap (take (length (take at input) + length line)) (sym (take-append-drop at input))
    ∙ whole
    ∙ ap (λ l. take at input ++ l) first

pub at_goes_on : (input line : List ℕ) (at : ℕ) → at < length input → line ≡ first_line (drop at input) → at + length line ≤ length input → is_mark line ≡ false → IsAt input at → IsAt input (at + length line)
at_goes_on input line at inside is small other before =
    let rest = trace_lines (drop (at + length line) input) in record {
      within = small;
      scenario =
          before.scenario
          ∙ ap (λ ls. take at input ++ joined_lines (before_mark ls)) (there input line at inside is)
          ∙ ap (λ l. take at input ++ l) (before_other line rest other)
          ∙ sym (append_assoc (take at input) line (joined_lines (before_mark rest)))
          ∙ ap (λ l. l ++ joined_lines (before_mark rest)) (sym (taken_line input line at inside is));
      trace = before.trace ∙ ap (λ ls. joined_lines (after_mark ls)) (there input line at inside is) ∙ after_other line rest other;
    }

-- the line at the place is `trace`
pub scenario_ends : (input line : List ℕ) (at : ℕ) → at < length input → line ≡ first_line (drop at input) → is_mark line ≡ true → IsAt input at → take at input ≡ scenario_in input
scenario_ends input line at inside is mark before =
    let rest = trace_lines (drop (at + length line) input) in
    sym (before.scenario
    ∙ ap (λ ls. take at input ++ joined_lines (before_mark ls)) (there input line at inside is)
    ∙ ap (λ l. take at input ++ l) (before_here line rest mark)
    ∙ append-nil (take at input))

pub trace_begins : (input line : List ℕ) (at : ℕ) → at < length input → line ≡ first_line (drop at input) → is_mark line ≡ true → IsAt input at → drop (at + length line) input ≡ trace_in input
trace_begins input line at inside is mark before =
    let rest = trace_lines (drop (at + length line) input) in
    sym (before.trace
    ∙ ap (λ ls. joined_lines (after_mark ls)) (there input line at inside is)
    ∙ after_here line rest mark
    ∙ lines_join (drop (at + length line) input))

-- no line is `trace`
pub all_scenario : (input : List ℕ) (at : ℕ) → length input ≤ at → IsAt input at → take at input ≡ scenario_in input
all_scenario input at past before =
    sym (before.scenario
    ∙ ap (λ bytes. take at input ++ joined_lines (before_mark (trace_lines bytes))) (drop_all at input past)
    ∙ append-nil (take at input))

pub no_trace : (input : List ℕ) (at : ℕ) → length input ≤ at → IsAt input at → drop at input ≡ trace_in input
no_trace input at past before =
    drop_all at input past ∙ sym (before.trace ∙ ap (λ bytes. joined_lines (after_mark (trace_lines bytes))) (drop_all at input past))
