-- A scenario and a trace, with the line `trace` between them, are taken apart again.
use Rattle.std.proofs.Common.{◌≡◌, inl, inr, ℕ, suc, ◌==◌, Bool, true, false, cond, not, ◌&&◌, List, [], ◌∷◌, ◌++◌, map, Option, Some, None, option_map, Result, Ok, Err, refl, ap, sym, ◌∙◌, subst, codes}
use Rattle.std.specs.Prelude.{⊤}
use Rattle.std.specs.List.{list_all, take_while}
use Rattle.std.proofs.lemmas.Bool.{and_from, and_parts, cases_Bool, not-true}
use Rattle.std.proofs.lemmas.List.Sums.{take_while-cons}
use Rattle.std.proofs.lemmas.Option.{same_Some}
use Rattle.wdf_scene.specs.declared.scene.Scene.{Scene}
use Rattle.wdf_scene.specs.Written.{WrittenLine, is_written}
use Rattle.wdf_tokens.specs.declared.lexer.TokenFault.{TokenFault}
use Rattle.wdf_tokens.specs.declared.token.Token.{Token}
use Rattle.wdf_tokens.specs.declared.token.Token.TheVariants as token
use Rattle.wdf_tokens.specs.Keywords.{keyword_of}
use Rattle.wdf_tokens.specs.Tokens as tokens
use Rattle.wdf_tokens.specs.Tokens.{line_reading, lines_of}
use Rattle.wdf_scene_lines.specs.Reading.{read_written}
use Rattle.wdf_scene_lines.proofs.Completeness.{written_read}
use Rattle.wdf_parse.specs.StandsFor.{StandsFor, TokenLine, spelled_line, token_lines, version_lines, with_token_line}
use Rattle.wdf_run_text.specs.Lines.{joined_lines, trace_lines, with_byte}
use Rattle.wdf_run_text.proofs.Cutting.{lines_join}
use Rattle.wdf_split.specs.Inputs.{after_mark, before_mark, is_mark, is_within, scenario_in, trace_in}
use Rattle.law_text.specs.Marks.{EndsInFeed, IsParted, has_no_mark, put_together}
use Rattle.law_text.proofs.Marks.{mark_reads}

-- ---- the lines of a text, with and without their line feeds

within_on : (b : ℕ) (line : List ℕ) → (b == 10) ≡ false → take_while is_within (b ∷ line) ≡ b ∷ take_while is_within line
within_on b line e = take_while-cons is_within b line ∙ ap (λ t. cond (not t) (b ∷ take_while is_within line) []) e

within_off : (b : ℕ) (line : List ℕ) → (b == 10) ≡ true → take_while is_within (b ∷ line) ≡ []
within_off b line e = take_while-cons is_within b line ∙ ap (λ t. cond (not t) (b ∷ take_while is_within line) []) e

byte_in_front : (b : ℕ) (ls : List (List ℕ)) → (b == 10) ≡ false → map (take_while is_within) (with_byte b ls) ≡ tokens.with_byte b (map (take_while is_within) ls)
byte_in_front b [] e = ap (λ l. l ∷ []) (within_on b [] e)
byte_in_front b (line ∷ ls) e = ap (λ l. l ∷ map (take_while is_within) ls) (within_on b line e)

lines_same : (text : List ℕ) → map (take_while is_within) (trace_lines text) ≡ lines_of text
lines_same [] = refl
lines_same (b ∷ bytes) = by (b == 10) refl (lines_same bytes)
  where
    by : (c : Bool) → (b == 10) ≡ c → map (take_while is_within) (trace_lines bytes) ≡ lines_of bytes → map (take_while is_within) (trace_lines (b ∷ bytes)) ≡ lines_of (b ∷ bytes)
    by true e rest = rw e (ap (λ l. l ∷ map (take_while is_within) (trace_lines bytes)) (within_off b [] e) ∙ ap (λ ls. [] ∷ ls) rest)
    by false e rest = rw e (byte_in_front b (trace_lines bytes) e ∙ ap (tokens.with_byte b) rest)

-- ---- no line of a scenario is the mark

abbrev trace_word : List Token
trace_word = token.Word (codes "trace") ∷ []

-- no line's tokens are that word alone
abbrev NoneIsTrace : List TokenLine → Type 0
NoneIsTrace [] = ⊤
NoneIsTrace (l ∷ ls) = (l.tokens ≡ trace_word → ⊥) × NoneIsTrace ls

unmarked : (line : List ℕ) → (line_reading (take_while is_within line) ≡ Ok trace_word → ⊥) → not (is_mark line) ≡ true
unmarked line h = elim (cases_Bool (is_mark line)) [
  | inl there ↦ absurd (h (mark_reads line there))
  | inr absent ↦ ap not absent
]

kept : (ts : List TokenLine) (rest : Option (List TokenLine)) (l : TokenLine) → option_map (λ us. l ∷ us) rest ≡ Some ts → (us : List TokenLine) × (rest ≡ Some us) × (ts ≡ l ∷ us)
kept ts None l h = absurd (let z : ⊥ = cc in z)
kept ts (Some us) l h = (us, refl, sym (same_Some (l ∷ us) ts h))

-- one line more, by how it is read
marked_by : (line : List ℕ) (ls : List (List ℕ)) (number : ℕ) (ts : List TokenLine) (rest : Option (List TokenLine)) (r : Result (List Token) TokenFault)
    → line_reading (take_while is_within line) ≡ r → with_token_line number r rest ≡ Some ts → NoneIsTrace ts
    → ((us : List TokenLine) → rest ≡ Some us → NoneIsTrace us → list_all (λ l. not (is_mark l)) ls ≡ true)
    → (not (is_mark line) && list_all (λ l. not (is_mark l)) ls) ≡ true
marked_by line ls number ts rest (Ok []) reads h none after =
    and_from (not (is_mark line)) (list_all (λ l. not (is_mark l)) ls) (unmarked line (λ word. let z : ⊥ = cc (sym reads ∙ word) in z)) (after ts h none)
marked_by line ls number ts rest (Ok (u ∷ us)) reads h none after =
    let more = kept ts rest (record { number = number; tokens = u ∷ us }) h in
    let parts : NoneIsTrace (record { number = number; tokens = u ∷ us } ∷ more.0) = subst NoneIsTrace more.2 none in
    and_from (not (is_mark line)) (list_all (λ l. not (is_mark l)) ls) (unmarked line (λ word. parts.0 (let same : u ∷ us ≡ trace_word = cc (sym reads ∙ word) in same))) (after more.0 more.1 parts.1)
marked_by line ls number ts rest (Err f) reads h none after = absurd (let z : ⊥ = cc in z)

none_marked : (ls : List (List ℕ)) (number : ℕ) (ts : List TokenLine) → token_lines number (map (take_while is_within) ls) ≡ Some ts → NoneIsTrace ts → list_all (λ line. not (is_mark line)) ls ≡ true
none_marked [] number ts is none = refl
none_marked (line ∷ ls) number ts is none =
    marked_by line ls number ts (token_lines (suc number) (map (take_while is_within) ls)) (line_reading (take_while is_within line)) refl is none (λ us h k. none_marked ls (suc number) us h k)

-- no line of the language is spelled by that word
not_a_line : read_written trace_word ≡ None
unfolding read_written keyword_of
not_a_line = refl

spelled_not : (ws : List WrittenLine) → list_all (λ w. is_written w.written) ws ≡ true → NoneIsTrace (map spelled_line ws)
spelled_not [] h = tt
spelled_not (w ∷ ws) h =
    let parts = and_parts (is_written w.written) (list_all (λ x. is_written x.written) ws) h in (
      λ word. let z : ⊥ = cc (sym not_a_line ∙ ap read_written (sym word) ∙ written_read w.written parts.0) in z,
      spelled_not ws parts.1,
    )

version_not : (version first : ℕ) (rest : List TokenLine) → NoneIsTrace rest → NoneIsTrace (version_lines version first ++ rest)
version_not version first rest h = by (version == 2) refl
  where
    by : (b : Bool) → (version == 2) ≡ b → NoneIsTrace (version_lines version first ++ rest)
    by true e = rw e (λ word. let z : ⊥ = cc in z, h)
    by false e = rw e h

pub no_mark : (text : List ℕ) (scene : Scene) → StandsFor text scene → has_no_mark text ≡ true
no_mark text scene stands =
    none_marked (trace_lines text) 1 (version_lines scene.version stands.first ++ map spelled_line stands.ws) (ap (token_lines 1) (lines_same text) ∙ stands.tokens)
    (version_not scene.version stands.first (map spelled_line stands.ws) (spelled_not stands.ws stands.lines.written))

-- ---- the input is taken apart

nothing_joined : (front : List ℕ) → [] ≡ front ++ codes "\n" → ⊥
nothing_joined [] h = let z : ⊥ = cc in z
nothing_joined (b ∷ bytes) h = let z : ⊥ = cc in z

byte_then : (b : ℕ) (ls ms : List (List ℕ)) → (ls ≡ [] → ⊥) → with_byte b (ls ++ ms) ≡ with_byte b ls ++ ms
byte_then b [] ms some = absurd (some refl)
byte_then b (line ∷ ls) ms some = refl

-- lines that end in a line feed, and what comes after them
lines_then : (front rest : List ℕ) → trace_lines ((front ++ codes "\n") ++ rest) ≡ trace_lines (front ++ codes "\n") ++ trace_lines rest
lines_then [] rest = refl
lines_then (b ∷ front) rest = by (b == 10) refl (lines_then front rest)
  where
    some : trace_lines (front ++ codes "\n") ≡ [] → ⊥
    some none = nothing_joined front (sym (ap joined_lines none) ∙ lines_join (front ++ codes "\n"))

    by : (c : Bool) → (b == 10) ≡ c → trace_lines ((front ++ codes "\n") ++ rest) ≡ trace_lines (front ++ codes "\n") ++ trace_lines rest
        → trace_lines (((b ∷ front) ++ codes "\n") ++ rest) ≡ trace_lines ((b ∷ front) ++ codes "\n") ++ trace_lines rest
    by true e deeper = rw e (ap (λ ls. (b ∷ []) ∷ ls) deeper)
    by false e deeper = rw e (ap (with_byte b) deeper ∙ byte_then b (trace_lines (front ++ codes "\n")) (trace_lines rest) some)

mark_there : is_mark (codes "trace\n") ≡ true
unfolding is_mark
mark_there = refl

mark_first : (trace : List ℕ) → trace_lines (codes "trace\n" ++ trace) ≡ codes "trace\n" ∷ trace_lines trace
mark_first trace = refl

before_it : (ls ms : List (List ℕ)) → list_all (λ line. not (is_mark line)) ls ≡ true → before_mark (ls ++ codes "trace\n" ∷ ms) ≡ ls
before_it [] ms h = rw mark_there refl
before_it (line ∷ ls) ms h =
    let parts = and_parts (not (is_mark line)) (list_all (λ l. not (is_mark l)) ls) h in
    rw (not-true (is_mark line) parts.0) (ap (λ more. line ∷ more) (before_it ls ms parts.1))

after_it : (ls ms : List (List ℕ)) → list_all (λ line. not (is_mark line)) ls ≡ true → after_mark (ls ++ codes "trace\n" ∷ ms) ≡ ms
after_it [] ms h = rw mark_there refl
after_it (line ∷ ls) ms h =
    let parts = and_parts (not (is_mark line)) (list_all (λ l. not (is_mark l)) ls) h in
    rw (not-true (is_mark line) parts.0) (after_it ls ms parts.1)

parts_of : (scenario trace : List ℕ) → EndsInFeed scenario → trace_lines (put_together scenario trace) ≡ trace_lines scenario ++ codes "trace\n" ∷ trace_lines trace
parts_of scenario trace ends =
    ap (λ s. trace_lines (s ++ (codes "trace\n" ++ trace))) ends.1 ∙ lines_then ends.0 (codes "trace\n" ++ trace)
    ∙ ap (λ s. trace_lines s ++ trace_lines (codes "trace\n" ++ trace)) (sym ends.1)

pub parted : (scenario trace : List ℕ) → has_no_mark scenario ≡ true → EndsInFeed scenario → IsParted scenario trace
unfolding scenario_in trace_in
parted scenario trace none ends = (
  ap (λ ls. joined_lines (before_mark ls)) (parts_of scenario trace ends) ∙ ap joined_lines (before_it (trace_lines scenario) (trace_lines trace) none) ∙ lines_join scenario,
  ap (λ ls. joined_lines (after_mark ls)) (parts_of scenario trace ends) ∙ ap joined_lines (after_it (trace_lines scenario) (trace_lines trace) none) ∙ lines_join trace,
)

pub parted_scene : (scenario trace : List ℕ) (scene : Scene) → StandsFor scenario scene → EndsInFeed scenario → IsParted scenario trace
parted_scene scenario trace scene stands ends = parted scenario trace (no_mark scenario scene stands) ends
