-- A text is taken line by line.
use Rattle.std.proofs.Common.{◌≡◌, ℕ, suc, ◌+◌, ◌-◌, ◌<◌, ◌≤◌, List, ◌∷◌, length, drop, take, Result, Ok, ap, ◌∙◌, sym, arith, add-one}
use Rattle.std.specs.List.{take_while}
use Rattle.std.proofs.lemmas.List.{drop_all}
use Rattle.wdf_tokens.specs.Tokens.{lines_of, is_inside}
use Rattle.wdf_tokens.proofs.LineReading.{slice_after}
use Rattle.wdf_parse.specs.declared.reader.Reader.{Reader}
use Rattle.wdf_parse.specs.declared.refusal.ParseRefusal.{ParseRefusal}
use Rattle.wdf_parse.specs.declared.refusal.ParseRefusal.TheVariants as refusal
use Rattle.wdf_parse.specs.Texts.{after_line, after_lines, IsRefusalOf}
use Rattle.wdf_parse.proofs.TextLines.{lines_from, cut_line}

-- all lines are those that are taken and those from this place on
pub record TakenUpTo (first : Reader) (text : List ℕ) (at number : ℕ) (now : Reader) : Type 0 where
  pub splits : after_lines (Ok first) 1 (lines_of text) ≡ after_lines (Ok now) number (lines_of (drop at text))
  pub numbers : length (lines_of text) + 1 ≡ number + length (lines_of (drop at text))
  pub within : number ≤ at + 1
  pub exprs : length now.builder.exprs ≤ at
  pub lines : length now.builder.lines ≤ at

-- the line at a place as the code cuts it out
pub line_there : (text : List ℕ) (at len : ℕ) → len ≡ length (take_while is_inside (take (length text - at) (drop at text))) → take len (take (length text - at) (drop at text)) ≡ take_while is_inside (drop at text)
line_there text at len is =
    let rest = slice_after text at in
    ap (take len) rest ∙ cut_line (drop at text) len (is ∙ ap (λ bytes. length (take_while is_inside bytes)) rest)

pub lines_there : (text : List ℕ) (at len : ℕ) → at < length text → len ≡ length (take_while is_inside (take (length text - at) (drop at text))) → lines_of (drop at text) ≡ take_while is_inside (drop at text) ∷ lines_of (drop (at + (len + 1)) text)
lines_there text at len inside is =
    let e : len ≡ length (take_while is_inside (drop at text)) = is ∙ ap (λ bytes. length (take_while is_inside bytes)) (slice_after text at) in
    lines_from text at inside ∙ ap (λ n. take_while is_inside (drop at text) ∷ lines_of (drop (at + (n + 1)) text)) (sym e)

-- one line more is taken
pub taken_next : (first : Reader) (text : List ℕ) (at number len : ℕ) (line : List ℕ) (now next : Reader)
    → TakenUpTo first text at number now → at < length text
    → len ≡ length (take_while is_inside (take (length text - at) (drop at text)))
    → line ≡ take len (take (length text - at) (drop at text))
    → length line ≤ len
    → after_line now number line ≡ Ok next
    → length next.builder.exprs ≤ length now.builder.exprs + length line
    → length next.builder.lines ≤ length now.builder.lines + 1
    → TakenUpTo first text (at + (len + 1)) (number + 1) next
taken_next first text at number len line now next before inside is_len is_line short gives exprs lines =
    let cut = lines_there text at len inside is_len in
    let behind = lines_of (drop (at + (len + 1)) text) in
    let here : line ≡ take_while is_inside (drop at text) = is_line ∙ line_there text at len is_len in
    record {
      splits =
          before.splits
          ∙ ap (after_lines (Ok now) number) cut
          ∙ ap (λ l. after_lines (after_line now number l) (suc number) behind) (sym here)
          ∙ ap (λ r. after_lines r (suc number) behind) gives
          ∙ ap (λ n. after_lines (Ok next) n behind) (sym (add-one number));
      numbers = omega (arith, before.numbers, ap length cut);
      within = omega (arith, before.within);
      exprs = omega (arith, before.exprs, exprs, short);
      lines = omega (arith, before.lines, lines);
    }

refusal_passes : (r : Result Reader ParseRefusal) (e : ParseRefusal) (number : ℕ) (lines : List (List ℕ)) → IsRefusalOf r e → IsRefusalOf (after_lines r number lines) e
refusal_passes r refusal.Memory number lines h = tt
refusal_passes r _ number lines h = ap (λ x. after_lines x number lines) h

-- a line is refused
pub taken_refused : (first : Reader) (text : List ℕ) (at number len : ℕ) (line : List ℕ) (now : Reader) (e : ParseRefusal)
    → TakenUpTo first text at number now → at < length text
    → len ≡ length (take_while is_inside (take (length text - at) (drop at text)))
    → line ≡ take len (take (length text - at) (drop at text))
    → IsRefusalOf (after_line now number line) e
    → IsRefusalOf (after_lines (Ok first) 1 (lines_of text)) e
taken_refused first text at number len line now e before inside is_len is_line gives =
    let cut = lines_there text at len inside is_len in
    let behind = lines_of (drop (at + (len + 1)) text) in
    let here : line ≡ take_while is_inside (drop at text) = is_line ∙ line_there text at len is_len in
    let steps : after_lines (Ok first) 1 (lines_of text) ≡ after_lines (after_line now number line) (suc number) behind =
    before.splits ∙ ap (after_lines (Ok now) number) cut ∙ ap (λ l. after_lines (after_line now number l) (suc number) behind) (sym here) in
    rw steps (refusal_passes (after_line now number line) e (suc number) behind gives)

-- at the end all is taken
pub taken_all : (first : Reader) (text : List ℕ) (at number : ℕ) (now : Reader) → TakenUpTo first text at number now → length text ≤ at → after_lines (Ok first) 1 (lines_of text) ≡ Ok now
taken_all first text at number now before outside = before.splits ∙ ap (λ bytes. after_lines (Ok now) number (lines_of bytes)) (drop_all at text outside)

pub number_all : (first : Reader) (text : List ℕ) (at number : ℕ) (now : Reader) → TakenUpTo first text at number now → length text ≤ at → number ≡ length (lines_of text) + 1
number_all first text at number now before outside =
    let none : length (lines_of (drop at text)) ≡ 0 = ap (λ bytes. length (lines_of bytes)) (drop_all at text outside) in
    omega (arith, before.numbers)
