-- The lines of a scene that stands for a text are read of it.
use Rattle.std.proofs.Common.{◌≡◌, ℕ, suc, ◌+◌, Bool, true, false, cond, ◌&&◌, ◌⊎◌, inl, inr, List, [], ◌∷◌, ◌++◌, map, length, Option, Some, None, option_map, Result, Ok, Err, refl, ap, ◌∙◌, sym, subst, length-append}
use Rattle.std.specs.List.{list_all}
use Rattle.wdf_base.proofs.Tests.{both_left, both_right}
use Rattle.wdf_scene.specs.declared.line.SceneLine.{SceneLine}
use Rattle.wdf_scene.specs.Blocks.{Position, front, moved, may_stand}
use Rattle.wdf_scene.specs.Blocks as blocks
use Rattle.wdf_scene.specs.Written.{Written, WrittenLine, is_written, line_at, nodes_at, written_size, lines_at}
use Rattle.wdf_tokens.specs.declared.lexer.TokenFault.{TokenFault}
use Rattle.wdf_tokens.specs.declared.token.Token.{Token}
use Rattle.wdf_tokens.specs.Tokens.{line_reading}
use Rattle.wdf_scene_lines.specs.Building.{next_node}
use Rattle.wdf_scene_lines.specs.Reading.{read_written}
use Rattle.wdf_scene_lines.specs.Spelling.{written_tokens}
use Rattle.wdf_scene_lines.proofs.Completeness.{written_read}
use Rattle.wdf_parse.specs.declared.reader.Reader.{Reader}
use Rattle.wdf_parse.specs.StandsFor.{TokenLine, with_token_line, token_lines, spelled_line, version_tokens, version_lines}
use Rattle.wdf_parse.specs.Texts.{opening, with_written, line_taken, is_version, is_at_front, or_bad_line, after_tokens, after_line, after_lines}
use Rattle.wdf_parse.proofs.History.{taken_by}
use Rattle.wdf_parse.proofs.NotVersion.{read_not_version}
use Rattle.wdf_parse.proofs.PrintedLines.{length_nodes_at}
use Rattle.wdf_parse.proofs.ReadBack.{version_is}

-- the lines are taken
pub record Forward (r : Reader) (number : ℕ) (lines : List (List ℕ)) (ws : List WrittenLine) : Type 0 where
  pub now : Reader
  pub gives : after_lines (Ok r) number lines ≡ Ok now
  pub taken : taken_by (Some r) ws ≡ Some now

-- the forms of some lines, numbered from a reader on
abbrev forms_from : ℕ → List WrittenLine → List SceneLine
forms_from base ws = map (λ l. l.form) (lines_at base ws)

abbrev are_written : List WrittenLine → Bool
are_written ws = list_all (λ w. is_written w.written) ws

-- what is known of the lines after
abbrev Goes : ℕ → List (List ℕ) → Type 0
Goes number lines = (r : Reader) (ws : List WrittenLine) (p : Position) → token_lines number lines ≡ Some (map spelled_line ws) → are_written ws ≡ true → blocks.after_lines (Some r.place.position) (forms_from (next_node r.builder) ws) ≡ Some p → Forward r number lines ws

stays_none : (fs : List SceneLine) → blocks.after_lines None fs ≡ None
stays_none [] = refl
stays_none (f ∷ fs) = stays_none fs

line_goes : (r : Reader) (number : ℕ) (l : List ℕ) (t : Token) (ts : List Token) (w : Written) → line_reading l ≡ Ok (t ∷ ts) → t ∷ ts ≡ written_tokens w → is_written w ≡ true → may_stand r.place.position (line_at (next_node r.builder) w) ≡ true → after_line r number l ≡ Ok (with_written r number w)
unfolding after_line
line_goes r number l t ts w is spells written stands =
    let read : read_written (t ∷ ts) ≡ Some w = ap read_written spells ∙ written_read w written in
    ap (after_tokens r number) is
    ∙ ap (λ b. or_bad_line number (cond (b && is_at_front r.place.position) (Some (opening 2)) (line_taken r number (read_written (t ∷ ts))))) (read_not_version (t ∷ ts) w read)
    ∙ ap (λ o. or_bad_line number (line_taken r number o)) read
    ∙ ap (λ b. or_bad_line number (cond b (Some (with_written r number w)) None)) stands

further : (r : Reader) (number : ℕ) (w : Written) → next_node r.builder + written_size w ≡ next_node (with_written r number w).builder
further r number w =
    sym (length-append r.builder.exprs (nodes_at (next_node r.builder) w) ∙ ap (λ n. next_node r.builder + n) (length_nodes_at (next_node r.builder) w))

stands_goes : (r : Reader) (number : ℕ) (l : List ℕ) (ls : List (List ℕ)) (t : Token) (ts : List Token) (w : WrittenLine) (ws : List WrittenLine) (p : Position) (b : Bool)
    → Goes (suc number) ls → line_reading l ≡ Ok (t ∷ ts) → t ∷ ts ≡ written_tokens w.written → number ≡ w.number
    → token_lines (suc number) ls ≡ Some (map spelled_line ws) → is_written w.written ≡ true → are_written ws ≡ true
    → may_stand r.place.position (line_at (next_node r.builder) w.written) ≡ b
    → blocks.after_lines (cond b (Some (moved r.place.position (line_at (next_node r.builder) w.written))) None) (forms_from (next_node r.builder + written_size w.written) ws) ≡ Some p
    → Forward r number (l ∷ ls) (w ∷ ws)
stands_goes r number l ls t ts w ws p false onward is spells numbers tokens written goods stands e =
    absurd (let none : None ≡ Some p = sym (stays_none (forms_from (next_node r.builder + written_size w.written) ws)) ∙ e in let z : ⊥ = cc in z)
stands_goes r number l ls t ts w ws p true onward is spells numbers tokens written goods stands e =
    let next : Reader = with_written r w.number w.written in
    let there : blocks.after_lines (Some next.place.position) (forms_from (next_node next.builder) ws) ≡ Some p =
    ap (λ n. blocks.after_lines (Some next.place.position) (forms_from n ws)) (sym (further r w.number w.written)) ∙ e in
    let behind = onward next ws p tokens goods there in
    let here : after_line r number l ≡ Ok next = line_goes r number l t ts w.written is spells written stands ∙ ap (λ n. Ok (with_written r n w.written)) numbers in
    record {
      now = behind.now;
      gives = step here behind.gives;
      taken = ap (λ c. taken_by (cond c (Some next) None) ws) stands ∙ behind.taken;
    }
  where
    step : {next now : Reader} → after_line r number l ≡ Ok next → after_lines (Ok next) (suc number) ls ≡ Ok now → after_lines (Ok r) number (l ∷ ls) ≡ Ok now
    step here behind = ap (λ x. after_lines x (suc number) ls) here ∙ behind

-- the first of the lines, where it has tokens
split_goes : (r : Reader) (number : ℕ) (l : List ℕ) (ls : List (List ℕ)) (t : Token) (ts : List Token) (rest : List TokenLine) (ws : List WrittenLine) (p : Position)
    → Goes (suc number) ls → line_reading l ≡ Ok (t ∷ ts) → token_lines (suc number) ls ≡ Some rest
    → record { number = number; tokens = t ∷ ts } ∷ rest ≡ map spelled_line ws
    → are_written ws ≡ true → blocks.after_lines (Some r.place.position) (forms_from (next_node r.builder) ws) ≡ Some p
    → Forward r number (l ∷ ls) ws
split_goes r number l ls t ts rest [] p onward is tokens e goods there = absurd (let z : ⊥ = cc in z)
split_goes r number l ls t ts rest (w ∷ ws) p onward is tokens e goods there =
    let this : TokenLine = record { number = number; tokens = t ∷ ts } in
    let first : this ≡ spelled_line w = cc in
    let behind : rest ≡ map spelled_line ws = cc in
    stands_goes r number l ls t ts w ws p (may_stand r.place.position (line_at (next_node r.builder) w.written)) onward is
    (ap (λ (x : TokenLine). x.tokens) first) (ap (λ (x : TokenLine). x.number) first) (tokens ∙ ap (λ (xs : List TokenLine). Some xs) behind)
    (both_left (is_written w.written) (are_written ws) goods) (both_right (is_written w.written) (are_written ws) goods) refl there

some_goes : (r : Reader) (number : ℕ) (l : List ℕ) (ls : List (List ℕ)) (t : Token) (ts : List Token) (rest : Option (List TokenLine)) (ws : List WrittenLine) (p : Position)
    → Goes (suc number) ls → line_reading l ≡ Ok (t ∷ ts) → token_lines (suc number) ls ≡ rest
    → option_map (λ (xs : List TokenLine). record { number = number; tokens = t ∷ ts } ∷ xs) rest ≡ Some (map spelled_line ws)
    → are_written ws ≡ true → blocks.after_lines (Some r.place.position) (forms_from (next_node r.builder) ws) ≡ Some p
    → Forward r number (l ∷ ls) ws
some_goes r number l ls t ts None ws p onward is tokens e goods there = absurd (let z : ⊥ = cc in z)
some_goes r number l ls t ts (Some rest) ws p onward is tokens e goods there =
    let inner : record { number = number; tokens = t ∷ ts } ∷ rest ≡ map spelled_line ws = cc in
    split_goes r number l ls t ts rest ws p onward is tokens inner goods there

reading_goes : (r : Reader) (number : ℕ) (l : List ℕ) (ls : List (List ℕ)) (reading : Result (List Token) TokenFault) (ws : List WrittenLine) (p : Position)
    → Goes (suc number) ls → line_reading l ≡ reading
    → with_token_line number reading (token_lines (suc number) ls) ≡ Some (map spelled_line ws)
    → are_written ws ≡ true → blocks.after_lines (Some r.place.position) (forms_from (next_node r.builder) ws) ≡ Some p
    → Forward r number (l ∷ ls) ws
unfolding after_line
reading_goes r number l ls (Err f) ws p onward is e goods there = absurd (let z : ⊥ = cc in z)
reading_goes r number l ls (Ok []) ws p onward is e goods there =
    let behind = onward r ws p e goods there in
    record { now = behind.now; gives = ap (λ x. after_lines (after_tokens r number x) (suc number) ls) is ∙ behind.gives; taken = behind.taken }
reading_goes r number l ls (Ok (t ∷ ts)) ws p onward is e goods there = some_goes r number l ls t ts (token_lines (suc number) ls) ws p onward is refl e goods there

none_goes : (r : Reader) (number : ℕ) (ws : List WrittenLine) → Some [] ≡ Some (map spelled_line ws) → Forward r number [] ws
none_goes r number [] e = record { now = r; gives = refl; taken = refl }
none_goes r number (w ∷ ws) e = absurd (let z : ⊥ = cc in z)

forward : (lines : List (List ℕ)) (number : ℕ) → Goes number lines
forward [] number r ws p e goods there = none_goes r number ws e
forward (l ∷ ls) number r ws p e goods there = reading_goes r number l ls (line_reading l) ws p (forward ls (suc number)) refl e goods there

-- the lines are taken from the front of a text
pub record ForwardFront (v number : ℕ) (lines : List (List ℕ)) (ws : List WrittenLine) : Type 0 where
  pub now : Reader
  pub gives : after_lines (Ok (opening 1)) number lines ≡ Ok now
  pub taken : taken_by (Some (opening v)) ws ≡ Some now

version_goes : (number : ℕ) (l : List ℕ) (t : Token) (ts : List Token) → line_reading l ≡ Ok (t ∷ ts) → t ∷ ts ≡ version_tokens → after_line (opening 1) number l ≡ Ok (opening 2)
unfolding after_line
version_goes number l t ts is spells =
    let mark : is_version (t ∷ ts) ≡ true = ap is_version spells ∙ version_is in
    ap (after_tokens (opening 1) number) is
    ∙ ap (λ b. or_bad_line number (cond (b && true) (Some (opening 2)) (line_taken (opening 1) number (read_written (t ∷ ts))))) mark

two_split : (number first : ℕ) (l : List ℕ) (ls : List (List ℕ)) (t : Token) (ts : List Token) (rest : Option (List TokenLine)) (ws : List WrittenLine) (p : Position)
    → line_reading l ≡ Ok (t ∷ ts) → token_lines (suc number) ls ≡ rest
    → option_map (λ (xs : List TokenLine). record { number = number; tokens = t ∷ ts } ∷ xs) rest ≡ Some (record { number = first; tokens = version_tokens } ∷ map spelled_line ws)
    → are_written ws ≡ true → blocks.after_lines (Some (front 2)) (forms_from 0 ws) ≡ Some p
    → ForwardFront 2 number (l ∷ ls) ws
two_split number first l ls t ts None ws p is tokens e goods there = absurd (let z : ⊥ = cc in z)
two_split number first l ls t ts (Some rest) ws p is tokens e goods there =
    let this : TokenLine = record { number = number; tokens = t ∷ ts } in
    let that : TokenLine = record { number = first; tokens = version_tokens } in
    let same : this ≡ that = cc in
    let behind : rest ≡ map spelled_line ws = cc in
    let f = forward ls (suc number) (opening 2) ws p (tokens ∙ ap (λ (xs : List TokenLine). Some xs) behind) goods there in
    record {
      now = f.now;
      gives = ap (λ x. after_lines x (suc number) ls) (version_goes number l t ts is (ap (λ (x : TokenLine). x.tokens) same)) ∙ f.gives;
      taken = f.taken;
    }

two_by : (number first : ℕ) (l : List ℕ) (ls : List (List ℕ)) (reading : Result (List Token) TokenFault) (ws : List WrittenLine) (p : Position)
    → (token_lines (suc number) ls ≡ Some (record { number = first; tokens = version_tokens } ∷ map spelled_line ws) → ForwardFront 2 (suc number) ls ws)
    → line_reading l ≡ reading
    → with_token_line number reading (token_lines (suc number) ls) ≡ Some (record { number = first; tokens = version_tokens } ∷ map spelled_line ws)
    → are_written ws ≡ true → blocks.after_lines (Some (front 2)) (forms_from 0 ws) ≡ Some p
    → ForwardFront 2 number (l ∷ ls) ws
unfolding after_line
two_by number first l ls (Err f) ws p onward is e goods there = absurd (let z : ⊥ = cc in z)
two_by number first l ls (Ok []) ws p onward is e goods there =
    let behind = onward e in
    record { now = behind.now; gives = ap (λ x. after_lines (after_tokens (opening 1) number x) (suc number) ls) is ∙ behind.gives; taken = behind.taken }
two_by number first l ls (Ok (t ∷ ts)) ws p onward is e goods there = two_split number first l ls t ts (token_lines (suc number) ls) ws p is refl e goods there

forward_two : (lines : List (List ℕ)) (number first : ℕ) (ws : List WrittenLine) (p : Position) → token_lines number lines ≡ Some (record { number = first; tokens = version_tokens } ∷ map spelled_line ws) → are_written ws ≡ true → blocks.after_lines (Some (front 2)) (forms_from 0 ws) ≡ Some p → ForwardFront 2 number lines ws
forward_two [] number first ws p e goods there = absurd (let z : ⊥ = cc in z)
forward_two (l ∷ ls) number first ws p e goods there = two_by number first l ls (line_reading l) ws p (λ h. forward_two ls (suc number) first ws p h goods there) refl e goods there

forward_one : (lines : List (List ℕ)) (number : ℕ) (ws : List WrittenLine) (p : Position) → token_lines number lines ≡ Some (map spelled_line ws) → are_written ws ≡ true → blocks.after_lines (Some (front 1)) (forms_from 0 ws) ≡ Some p → ForwardFront 1 number lines ws
forward_one lines number ws p e goods there =
    let f = forward lines number (opening 1) ws p e goods there in
    record { now = f.now; gives = f.gives; taken = f.taken }

pub forward_front : (v : ℕ) → ((v ≡ 1) ⊎ (v ≡ 2)) → (lines : List (List ℕ)) (number first : ℕ) (ws : List WrittenLine) (p : Position) → token_lines number lines ≡ Some (version_lines v first ++ map spelled_line ws) → are_written ws ≡ true → blocks.after_lines (Some (front v)) (forms_from 0 ws) ≡ Some p → ForwardFront v number lines ws
forward_front v (inl is) lines number first ws p e goods there =
    subst (λ n. ForwardFront n number lines ws) (sym is)
    (forward_one lines number ws p (e ∙ ap (λ n. Some (version_lines n first ++ map spelled_line ws)) is) goods (ap (λ n. blocks.after_lines (Some (front n)) (forms_from 0 ws)) (sym is) ∙ there))
forward_front v (inr is) lines number first ws p e goods there =
    subst (λ n. ForwardFront n number lines ws) (sym is)
    (forward_two lines number first ws p (e ∙ ap (λ n. Some (version_lines n first ++ map spelled_line ws)) is) goods (ap (λ n. blocks.after_lines (Some (front n)) (forms_from 0 ws)) (sym is) ∙ there))
