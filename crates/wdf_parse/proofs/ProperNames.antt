-- A scene that stands for a text declares names of the language.
use Rattle.std.proofs.Common.{◌≡◌, ℕ, suc, ◌+◌, Bool, true, false, ◌&&◌, ◌||◌, List, [], ◌∷◌, ◌++◌, map, length, Option, Some, None, Result, Ok, Err, IfOk, refl, ap, ◌∙◌, sym, subst}
use Rattle.std.specs.Prelude.{◌==◌, nat_le}
use Rattle.std.specs.Char.{is_ascii_alphabetic, is_ascii_alphanumeric}
use Rattle.std.specs.Int.{is_in_range}
use Rattle.std.specs.List.{list_all}
use Rattle.std.proofs.lemmas.List.Folds.{list_all-append}
use Rattle.wdf_base.specs.Resolved.{is_name}
use Rattle.wdf_base.proofs.Tests.{both, both_left, both_right}
use Rattle.wdf_scene.specs.declared.line.SceneLine.{SceneLine}
use Rattle.wdf_scene.specs.declared.line.SceneLine.TheVariants as line
use Rattle.wdf_scene.specs.declared.line.StatementHead.{StatementHead}
use Rattle.wdf_scene.specs.declared.line.StatementHead.TheVariants as head
use Rattle.wdf_scene.specs.declared.scene.Scene.{Scene}
use Rattle.wdf_scene.specs.Naming.{HasProperNames, declared_name, is_proper_name, is_proper_if_there, names_properly}
use Rattle.wdf_scene.specs.Written.{Written, Plain, Picked, Single, Calling, WrittenLine, IsScene, line_at, head_line, lines_at, written_size}
use Rattle.wdf_tokens.specs.declared.lexer.TokenFault.{TokenFault}
use Rattle.wdf_tokens.specs.declared.token.Token.{Token}
use Rattle.wdf_tokens.specs.declared.token.Token.TheVariants as token
use Rattle.wdf_tokens.specs.Tokens.{line_reading, lines_of, is_name_byte}
use Rattle.wdf_tokens.specs.WellFormed.{is_word, is_token}
use Rattle.wdf_tokens.proofs.LexedTokens.{read_fit}
use Rattle.wdf_scene_lines.specs.Spelling.{written_tokens, plain_tokens}
use Rattle.wdf_parse.specs.StandsFor.{StandsFor, TokenLine, with_token_line, token_lines, spelled_line, version_lines}

-- ---- the tokens of a text have a spelling

abbrev is_fit : TokenLine → Bool
is_fit l = list_all is_token l.tokens

abbrev AllFit : Option (List TokenLine) → Type 0
AllFit None = Unit {0}
AllFit (Some ls) = list_all is_fit ls ≡ true

line_fits : (number : ℕ) (l : List ℕ) (r : Result (List Token) TokenFault) (rest : Option (List TokenLine)) → line_reading l ≡ r → AllFit rest → AllFit (with_token_line number r rest)
line_fits number l (Ok []) rest is h = h
line_fits number l (Ok (t ∷ ts)) None is h = tt
line_fits number l (Ok (t ∷ ts)) (Some ls) is h =
    both (list_all is_token (t ∷ ts)) (list_all is_fit ls) (read_fit l (t ∷ ts) is) h
line_fits number l (Err f) rest is h = tt

all_fit : (number : ℕ) (ls : List (List ℕ)) → AllFit (token_lines number ls)
all_fit number [] = refl
all_fit number (l ∷ ls) =
    line_fits number l (line_reading l) (token_lines (suc number) ls) refl (all_fit (suc number) ls)

-- ---- so have those of the scene's lines

abbrev is_spelled : WrittenLine → Bool
is_spelled w = list_all is_token (written_tokens w.written)

all_spelled : (ws : List WrittenLine) → list_all is_fit (map spelled_line ws) ≡ true → list_all is_spelled ws ≡ true
all_spelled [] h = refl
all_spelled (w ∷ ws) h =
    both (is_spelled w) (list_all is_spelled ws) (both_left (is_spelled w) (list_all is_fit (map spelled_line ws)) h) (all_spelled ws (both_right (is_spelled w) (list_all is_fit (map spelled_line ws)) h))

after_version : (vs : List TokenLine) (ws : List WrittenLine) → list_all is_fit (vs ++ map spelled_line ws) ≡ true → list_all is_spelled ws ≡ true
after_version vs ws h =
    all_spelled ws (both_right (list_all is_fit vs) (list_all is_fit (map spelled_line ws)) (sym (list_all-append is_fit vs (map spelled_line ws)) ∙ h))

-- ---- the declared name is one of the tokens

or_order : (u l d e : Bool) → (((u || l) || d) || e) ≡ (((d || u) || l) || e)
or_order true l true e = refl
or_order true l false e = refl
or_order false true true e = refl
or_order false true false e = refl
or_order false false true e = refl
or_order false false false e = refl

name_byte : (b : ℕ) → is_name_byte b ≡ (is_ascii_alphanumeric b || (b == 95))
name_byte b = or_order (is_in_range 65 90 b) (is_in_range 97 122 b) (is_in_range 48 57 b) (b == 95)

name_bytes : (bs : List ℕ) → list_all is_name_byte bs ≡ true → list_all (λ x. is_ascii_alphanumeric x || (x == 95)) bs ≡ true
name_bytes [] h = refl
name_bytes (b ∷ bs) h =
    both (is_ascii_alphanumeric b || (b == 95)) (list_all (λ x. is_ascii_alphanumeric x || (x == 95)) bs) (sym (name_byte b) ∙ both_left (is_name_byte b) (list_all is_name_byte bs) h) (name_bytes bs (both_right (is_name_byte b) (list_all is_name_byte bs) h))

word_name : (n : List ℕ) → is_word n ≡ true → is_name n ≡ true
word_name [] h = absurd (let z : ⊥ = cc in z)
word_name (b ∷ bs) h =
    both (is_ascii_alphabetic b) (list_all (λ x. is_ascii_alphanumeric x || (x == 95)) bs) (both_left (is_ascii_alphabetic b) (list_all is_name_byte (b ∷ bs)) h) (name_bytes bs (both_right (is_name_byte b) (list_all is_name_byte bs) (both_right (is_ascii_alphabetic b) (list_all is_name_byte (b ∷ bs)) h)))

-- the second token is the name
abbrev IsSecondProper : List Token → Type 0
IsSecondProper (t ∷ token.Word n ∷ ts) = is_proper_name n ≡ true
IsSecondProper _ = Unit {0}

second_name : (ts : List Token) → list_all is_token ts ≡ true → IsSecondProper ts
second_name (t ∷ token.Word n ∷ ts) h =
    let w : (is_word n && nat_le (length n) 32) ≡ true = both_left (is_word n && nat_le (length n) 32) (list_all is_token ts) (both_right (is_token t) (list_all is_token (token.Word n ∷ ts)) h) in
    both (is_name n) (nat_le (length n) 32) (word_name n (both_left (is_word n) (nat_le (length n) 32) w)) (both_right (is_word n) (nat_le (length n) 32) w)
second_name _ h = tt

form_proper : (form : SceneLine) → list_all is_token (plain_tokens form) ≡ true → is_proper_if_there (declared_name form) ≡ true
unfolding declared_name
form_proper (line.Class n k) h = second_name (plain_tokens (line.Class n k)) h
form_proper (line.DeferredClass n k parent) h = second_name (plain_tokens (line.DeferredClass n k parent)) h
form_proper (line.Device n working) h = second_name (plain_tokens (line.Device n working)) h
form_proper (line.Interrupt n level) h = second_name (plain_tokens (line.Interrupt n level)) h
form_proper (line.Queue n dispatch) h = second_name (plain_tokens (line.Queue n dispatch)) h
form_proper (line.Target n delay status depth) h = second_name (plain_tokens (line.Target n delay status depth)) h
form_proper (line.App n) h = second_name (plain_tokens (line.App n)) h
form_proper (line.Register n v) h = second_name (plain_tokens (line.Register n v)) h
form_proper _ h = refl

head_proper : (h : StatementHead) (e : ℕ) → is_proper_if_there (declared_name (head_line h e)) ≡ true
unfolding declared_name
head_proper (head.Let x) e = refl
head_proper _ e = refl

written_proper : (base : ℕ) (w : Written) → list_all is_token (written_tokens w) ≡ true → is_proper_if_there (declared_name (line_at base w)) ≡ true
unfolding declared_name
written_proper base (Plain form) h = form_proper form h
written_proper base (Picked ns) h = refl
written_proper base (Single s t) h = head_proper s _
written_proper base (Calling kind into a b c) h = refl

lines_proper : (base : ℕ) (ws : List WrittenLine) → list_all is_spelled ws ≡ true → list_all names_properly (lines_at base ws) ≡ true
lines_proper base [] h = refl
lines_proper base (w ∷ ws) h =
    both (is_proper_if_there (declared_name (line_at base w.written))) (list_all names_properly (lines_at (base + written_size w.written) ws)) (written_proper base w.written (both_left (is_spelled w) (list_all is_spelled ws) h)) (lines_proper (base + written_size w.written) ws (both_right (is_spelled w) (list_all is_spelled ws) h))

pub stands_properly : (text : List ℕ) (s : Scene) → StandsFor text s → HasProperNames s
stands_properly text s h =
    let fit : list_all is_fit (version_lines s.version h.first ++ map spelled_line h.ws) ≡ true = subst AllFit h.tokens (all_fit 1 (lines_of text)) in
    let lines : s.lines ≡ lines_at 0 h.ws = ap (λ (x : Scene). x.lines) h.is in
    record { each = rw lines (lines_proper 0 h.ws (after_version (version_lines s.version h.first) h.ws fit)) }

pub stands_scene : (text : List ℕ) (s : Scene) → StandsFor text s → IsScene s
stands_scene text s h = record { ws = h.ws; is = h.is; lines = h.lines }

-- so has the scene that was read
pub formed_if : {E : Type 0} (text : List ℕ) (r : Result Scene E) → IfOk r (StandsFor text) → IfOk r (λ s. IsScene s)
formed_if text (Ok s) h = stands_scene text s h
formed_if text (Err e) h = tt
