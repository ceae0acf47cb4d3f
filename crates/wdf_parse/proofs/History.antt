-- A text that is read is a list of lines, each read from its tokens.
use Rattle.std.proofs.Common.{◌≡◌, ℕ, suc, ◌+◌, Bool, true, false, cond, ◌&&◌, ◌⊎◌, inl, inr, List, [], ◌∷◌, ◌++◌, map, Option, Some, None, Result, Ok, Err, refl, ap, ◌∙◌, sym}
use Rattle.std.specs.Prelude.{◌==◌}
use Rattle.std.specs.List.{list_all}
use Rattle.std.proofs.lemmas.Bool.{eqb-true}
use Rattle.std.proofs.Math.Bool.{and-false, and-true}
use Rattle.wdf_scene.specs.declared.line.SceneLine.{SceneLine}
use Rattle.wdf_scene.specs.declared.line.SceneLine.TheVariants as line
use Rattle.wdf_scene.specs.Blocks.{Position, front, moved, may_stand}
use Rattle.wdf_scene.specs.Written.{Written, WrittenLine, is_written, line_at}
use Rattle.wdf_tokens.specs.declared.keyword.Keyword.{Keyword}
use Rattle.wdf_tokens.specs.declared.keyword.Keyword.TheVariants as keyword
use Rattle.wdf_tokens.specs.declared.lexer.TokenFault.{TokenFault}
use Rattle.wdf_tokens.specs.declared.token.Token.{Token}
use Rattle.wdf_tokens.specs.declared.token.Token.TheVariants as token
use Rattle.wdf_tokens.specs.Keywords.{keyword_of}
use Rattle.wdf_tokens.specs.WordTokens.{word}
use Rattle.wdf_tokens.specs.Tokens.{line_reading}
use Rattle.wdf_tokens.specs.WellFormed.{is_token}
use Rattle.wdf_tokens.proofs.KeywordLaws.{keyword_only}
use Rattle.wdf_tokens.proofs.LexedTokens.{read_fit}
use Rattle.wdf_scene_lines.specs.Building.{next_node}
use Rattle.wdf_scene_lines.specs.Reading.{read_written}
use Rattle.wdf_scene_lines.specs.Spelling.{written_tokens}
use Rattle.wdf_scene_lines.proofs.LineSoundness.{read_spelled}
use Rattle.wdf_parse.specs.declared.reader.Reader.{Reader}
use Rattle.wdf_parse.specs.StandsFor.{with_token_line, token_lines, spelled_line, version_tokens, version_lines}
use Rattle.wdf_parse.specs.Texts.{opening, with_written, line_taken, version_mark, is_version, is_at_front, tokens_taken, or_bad_line, after_tokens, after_line, after_lines}

-- a line is read from the tokens that spell it
pub record Good (w : Written) : Type 0 where
  pub read : read_written (written_tokens w) ≡ Some w
  pub fit : list_all is_token (written_tokens w) ≡ true
  pub written : is_written w ≡ true

abbrev pub AllGood : List WrittenLine → Type 0
AllGood [] = Unit {0}
AllGood (w ∷ ws) = Good w.written × AllGood ws

good_of : (ts : List Token) (w : Written) → list_all is_token ts ≡ true → read_written ts ≡ Some w → Good w
good_of ts w fit read =
    let s = read_spelled ts w fit read in
    record { read = ap read_written s.tokens ∙ read; fit = ap (list_all is_token) s.tokens ∙ fit; written = s.written }

-- some lines are taken in turn
abbrev pub taken_by : Option Reader → List WrittenLine → Option Reader
taken_by None ws = None
taken_by (Some r) [] = Some r
taken_by (Some r) (w ∷ ws) = taken_by (line_taken r w.number (Some w.written)) ws

-- what was read between two places
pub record History (r : Reader) (number : ℕ) (lines : List (List ℕ)) (now : Reader) : Type 0 where
  pub ws : List WrittenLine
  pub good : AllGood ws
  pub taken : taken_by (Some r) ws ≡ Some now
  pub tokens : token_lines number lines ≡ Some (map spelled_line ws)

not_front_moved : (p : Position) (form : SceneLine) → is_at_front p ≡ false → is_at_front (moved p form) ≡ false
not_front_moved p (line.Cpus n) h = and-false (p.version == 1)
not_front_moved p (line.Limit n) h = and-false (p.version == 1)
not_front_moved p (line.Objects n) h = and-false (p.version == 1)
not_front_moved p _ h = h

first_not_front : (form : SceneLine) → may_stand (front 1) form ≡ true → is_at_front (moved (front 1) form) ≡ false
first_not_front (line.Cpus n) h = refl
first_not_front (line.Scope None) h = absurd (let z : ⊥ = cc in z)
first_not_front (line.Scope (Some s)) h = absurd (let z : ⊥ = cc in z)
first_not_front (line.Level None) h = absurd (let z : ⊥ = cc in z)
first_not_front (line.Level (Some l)) h = absurd (let z : ⊥ = cc in z)
first_not_front _ h = absurd (let z : ⊥ = cc in z)

-- what is known of the lines after
abbrev Onward : ℕ → List (List ℕ) → Reader → Type 0
Onward number lines now = (r : Reader) → is_at_front r.place.position ≡ false → after_lines (Ok r) number lines ≡ Ok now → History r number lines now

empty_line : (r now : Reader) (number : ℕ) (l : List ℕ) (ls : List (List ℕ)) → line_reading l ≡ Ok [] → History r (suc number) ls now → History r number (l ∷ ls) now
empty_line r now number l ls is h = record {
  ws = h.ws;
  good = h.good;
  taken = h.taken;
  tokens = ap (λ x. with_token_line number x (token_lines (suc number) ls)) is ∙ h.tokens;
}

-- one line more in front
one_line : (r now : Reader) (number : ℕ) (l : List ℕ) (ls : List (List ℕ)) (t : Token) (ts : List Token) (w : Written)
    → line_reading l ≡ Ok (t ∷ ts) → read_written (t ∷ ts) ≡ Some w → may_stand r.place.position (line_at (next_node r.builder) w) ≡ true
    → History (with_written r number w) (suc number) ls now → History r number (l ∷ ls) now
one_line r now number l ls t ts w is read stands h =
    let s = read_spelled (t ∷ ts) w (read_fit l (t ∷ ts) is) read in
    record {
      ws = record { number = number; written = w } ∷ h.ws;
      good = (good_of (t ∷ ts) w (read_fit l (t ∷ ts) is) read, h.good);
      taken = ap (λ b. taken_by (cond b (Some (with_written r number w)) None) h.ws) stands ∙ h.taken;
      tokens = ap (λ x. with_token_line number x (token_lines (suc number) ls)) is
          ∙ ap (with_token_line number (Ok (t ∷ ts))) h.tokens
          ∙ ap (λ xs. Some (record { number = number; tokens = xs } ∷ map spelled_line h.ws)) (sym s.tokens);
    }

stood : (r now : Reader) (number : ℕ) (l : List ℕ) (ls : List (List ℕ)) (t : Token) (ts : List Token) (w : Written) (b : Bool)
    → line_reading l ≡ Ok (t ∷ ts) → read_written (t ∷ ts) ≡ Some w → may_stand r.place.position (line_at (next_node r.builder) w) ≡ b
    → is_at_front (moved r.place.position (line_at (next_node r.builder) w)) ≡ false
    → Onward (suc number) ls now
    → after_lines (or_bad_line number (cond b (Some (with_written r number w)) None)) (suc number) ls ≡ Ok now → History r number (l ∷ ls) now
stood r now number l ls t ts w true is read stands inside onward e = one_line r now number l ls t ts w is read stands (onward (with_written r number w) inside e)
stood r now number l ls t ts w false is read stands inside onward e = absurd (let z : ⊥ = cc in z)

formed : (r now : Reader) (number : ℕ) (l : List ℕ) (ls : List (List ℕ)) (t : Token) (ts : List Token) (w : Option Written)
    → line_reading l ≡ Ok (t ∷ ts) → read_written (t ∷ ts) ≡ w
    → ((x : Written) → may_stand r.place.position (line_at (next_node r.builder) x) ≡ true → is_at_front (moved r.place.position (line_at (next_node r.builder) x)) ≡ false)
    → Onward (suc number) ls now
    → after_lines (or_bad_line number (line_taken r number w)) (suc number) ls ≡ Ok now → History r number (l ∷ ls) now
formed r now number l ls t ts None is read inside onward e = absurd (let z : ⊥ = cc in z)
formed r now number l ls t ts (Some w) is read inside onward e =
    by_standing (may_stand r.place.position (line_at (next_node r.builder) w)) refl e
  where
    by_standing : (b : Bool) → may_stand r.place.position (line_at (next_node r.builder) w) ≡ b → after_lines (or_bad_line number (cond b (Some (with_written r number w)) None)) (suc number) ls ≡ Ok now → History r number (l ∷ ls) now
    by_standing true stands e = stood r now number l ls t ts w true is read stands (inside w stands) onward e
    by_standing false stands e = absurd (let z : ⊥ = cc in z)

inside_by : (r now : Reader) (number : ℕ) (l : List ℕ) (ls : List (List ℕ)) (reading : Result (List Token) TokenFault)
    → is_at_front r.place.position ≡ false → line_reading l ≡ reading → Onward (suc number) ls now
    → after_lines (after_tokens r number reading) (suc number) ls ≡ Ok now → History r number (l ∷ ls) now
inside_by r now number l ls (Err f) inside is onward e = absurd (let z : ⊥ = cc in z)
inside_by r now number l ls (Ok []) inside is onward e = empty_line r now number l ls is (onward r inside e)
inside_by r now number l ls (Ok (t ∷ ts)) inside is onward e =
    let plain : tokens_taken r number (t ∷ ts) ≡ line_taken r number (read_written (t ∷ ts)) =
    ap (λ b. cond (is_version (t ∷ ts) && b) (Some (opening 2)) (line_taken r number (read_written (t ∷ ts)))) inside
    ∙ ap (λ b. cond b (Some (opening 2)) (line_taken r number (read_written (t ∷ ts)))) (and-false (is_version (t ∷ ts))) in
    formed r now number l ls t ts (read_written (t ∷ ts)) is refl
    (λ w _. not_front_moved r.place.position (line_at (next_node r.builder) w) inside) onward
    (ap (λ o. after_lines (or_bad_line number o) (suc number) ls) (sym plain) ∙ e)

-- after the front of a text
history : (lines : List (List ℕ)) (number : ℕ) (now : Reader) → Onward number lines now
unfolding after_line
history [] number now r inside e = record { ws = []; good = tt; taken = cc; tokens = refl }
history (l ∷ ls) number now r inside e = inside_by r now number l ls (line_reading l) inside refl (history ls (suc number) now) e

-- what was read of a text
pub record FrontHistory (number : ℕ) (lines : List (List ℕ)) (now : Reader) : Type 0 where
  pub version : ℕ
  pub known : (version ≡ 1) ⊎ (version ≡ 2)
  pub first : ℕ
  pub ws : List WrittenLine
  pub good : AllGood ws
  pub taken : taken_by (Some (opening version)) ws ≡ Some now
  pub tokens : token_lines number lines ≡ Some (version_lines version first ++ map spelled_line ws)

mark_only : (w : List ℕ) (k : Option Keyword) (n : ℕ) → keyword_of w ≡ k → version_mark k n ≡ true → token.Word w ∷ token.Number n ∷ [] ≡ version_tokens
mark_only w (Some keyword.Version) n is h =
    ap (λ x. token.Word x ∷ token.Number n ∷ []) (sym (keyword_only keyword.Version w is)) ∙ ap (λ m. word keyword.Version ∷ token.Number m ∷ []) (eqb-true n 2 h)
mark_only w _ n is h = absurd (let z : ⊥ = cc in z)

version_only : (ts : List Token) → is_version ts ≡ true → ts ≡ version_tokens
version_only (token.Word w ∷ token.Number n ∷ []) h = mark_only w (keyword_of w) n refl h
version_only _ h = absurd (let z : ⊥ = cc in z)

from_one : (number : ℕ) (lines : List (List ℕ)) (now : Reader) → History (opening 1) number lines now → FrontHistory number lines now
from_one number lines now h = record { version = 1; known = inl refl; first = 0; ws = h.ws; good = h.good; taken = h.taken; tokens = h.tokens }

from_two : (number : ℕ) (l : List ℕ) (ls : List (List ℕ)) (t : Token) (ts : List Token) (now : Reader) → line_reading l ≡ Ok (t ∷ ts) → is_version (t ∷ ts) ≡ true → History (opening 2) (suc number) ls now → FrontHistory number (l ∷ ls) now
from_two number l ls t ts now is mark h = record {
  version = 2;
  known = inr refl;
  first = number;
  ws = h.ws;
  good = h.good;
  taken = h.taken;
  tokens = ap (λ x. with_token_line number x (token_lines (suc number) ls)) is
      ∙ ap (with_token_line number (Ok (t ∷ ts))) h.tokens
      ∙ ap (λ xs. Some (record { number = number; tokens = xs } ∷ map spelled_line h.ws)) (version_only (t ∷ ts) mark);
}

front_empty : (number : ℕ) (l : List ℕ) (ls : List (List ℕ)) (now : Reader) → line_reading l ≡ Ok [] → FrontHistory (suc number) ls now → FrontHistory number (l ∷ ls) now
front_empty number l ls now is h = record {
  version = h.version;
  known = h.known;
  first = h.first;
  ws = h.ws;
  good = h.good;
  taken = h.taken;
  tokens = ap (λ x. with_token_line number x (token_lines (suc number) ls)) is ∙ h.tokens;
}

front_marked : (number : ℕ) (l : List ℕ) (ls : List (List ℕ)) (t : Token) (ts : List Token) (now : Reader) (b : Bool)
    → line_reading l ≡ Ok (t ∷ ts) → is_version (t ∷ ts) ≡ b
    → after_lines (or_bad_line number (cond b (Some (opening 2)) (line_taken (opening 1) number (read_written (t ∷ ts))))) (suc number) ls ≡ Ok now
    → FrontHistory number (l ∷ ls) now
front_marked number l ls t ts now true is mark e = from_two number l ls t ts now is mark (history ls (suc number) now (opening 2) refl e)
front_marked number l ls t ts now false is mark e =
    from_one number (l ∷ ls) now (formed (opening 1) now number l ls t ts (read_written (t ∷ ts)) is refl (λ w stands. first_not_front (line_at 0 w) stands) (history ls (suc number) now) e)

front_by : (number : ℕ) (l : List ℕ) (ls : List (List ℕ)) (now : Reader) (reading : Result (List Token) TokenFault)
    → line_reading l ≡ reading → (after_lines (Ok (opening 1)) (suc number) ls ≡ Ok now → FrontHistory (suc number) ls now)
    → after_lines (after_tokens (opening 1) number reading) (suc number) ls ≡ Ok now → FrontHistory number (l ∷ ls) now
front_by number l ls now (Err f) is onward e = absurd (let z : ⊥ = cc in z)
front_by number l ls now (Ok []) is onward e = front_empty number l ls now is (onward e)
front_by number l ls now (Ok (t ∷ ts)) is onward e =
    front_marked number l ls t ts now (is_version (t ∷ ts)) is refl
    (ap (λ b. after_lines (or_bad_line number (cond b (Some (opening 2)) (line_taken (opening 1) number (read_written (t ∷ ts))))) (suc number) ls) (sym (and-true (is_version (t ∷ ts)))) ∙ e)

-- a text that is read is a list of lines
pub front_history : (lines : List (List ℕ)) (number : ℕ) (now : Reader) → after_lines (Ok (opening 1)) number lines ≡ Ok now → FrontHistory number lines now
unfolding after_line
front_history [] number now e = record { version = 1; known = inl refl; first = 0; ws = []; good = tt; taken = cc; tokens = refl }
front_history (l ∷ ls) number now e = front_by number l ls now (line_reading l) refl (front_history ls (suc number) now) e
