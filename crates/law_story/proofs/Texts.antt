-- Lines that can be spelled are those of the text that they make.
use Rattle.std.proofs.Common.{◌≡◌, ◌⊎◌, inl, inr, ℕ, suc, ◌+◌, Bool, true, ◌&&◌, List, [], ◌∷◌, ◌++◌, map, flat_map, Option, Some, None, option_map, Result, Ok, Err, refl, sym, ap, ◌∙◌, subst}
use Rattle.std.specs.List.{list_all}
use Rattle.std.proofs.lemmas.Bool.{and_parts}
use Rattle.wdf_scene.specs.Written.{Written, WrittenLine, is_written}
use Rattle.wdf_tokens.specs.declared.token.Token.{Token}
use Rattle.wdf_tokens.specs.declared.lexer.TokenFault.{TokenFault}
use Rattle.wdf_tokens.specs.TokenTexts.{line_text}
use Rattle.wdf_tokens.specs.Tokens.{line_reading, lines_of}
use Rattle.wdf_tokens.specs.WellFormed.{is_token}
use Rattle.wdf_tokens.proofs.LexedTokens.{read_fit}
use Rattle.wdf_tokens.proofs.Respelling.{line_is_read, first_line_text}
use Rattle.wdf_scene_lines.specs.Reading.{read_written}
use Rattle.wdf_scene_lines.specs.Spelling.{written_tokens}
use Rattle.wdf_scene_lines.proofs.Completeness.{written_read}
use Rattle.wdf_parse.specs.Canonical.{written_text, canonical_text}
use Rattle.wdf_parse.specs.StandsFor.{TokenLine, spelled_line, token_lines, version_lines, version_tokens, with_token_line}
use Rattle.law_story.specs.Spelled.{is_spelled}
use Rattle.law_story.proofs.Lines.{renumbered}

-- ---- a text of such lines

not_empty : (w : Written) (ts : List Token) → read_written ts ≡ Some w → ts ≡ [] → ⊥
unfolding read_written
not_empty w ts h e = let none' : read_written [] ≡ Some w = subst (λ xs. read_written xs ≡ Some w) e h in let z : ⊥ = cc in z

with_first : (k : ℕ) (ts : List Token) (rest : Option (List TokenLine)) (ls : List TokenLine) → (ts ≡ [] → ⊥) → rest ≡ Some ls → with_token_line k (Ok ts) rest ≡ Some (record { number = k; tokens = ts } ∷ ls)
with_first k [] rest ls filled e = absurd (filled refl)
with_first k (t ∷ ts) rest ls filled e = ap (option_map (λ (xs : List TokenLine). record { number = k; tokens = t ∷ ts } ∷ xs)) e

first_spelled : (k : ℕ) (ts : List Token) (rest : List ℕ) (ls : List TokenLine) → list_all is_token ts ≡ true → (ts ≡ [] → ⊥) → token_lines (suc k) (lines_of rest) ≡ Some ls
    → token_lines k (lines_of (line_text ts ++ rest)) ≡ Some (record { number = k; tokens = ts } ∷ ls)
first_spelled k ts rest ls fit filled behind =
    ap (token_lines k) (first_line_text ts rest fit) ∙ ap (λ r. with_token_line k r (token_lines (suc k) (lines_of rest))) (line_is_read ts fit) ∙ with_first k ts (token_lines (suc k) (lines_of rest)) ls filled behind

text_spelled : (k : ℕ) (ws : List WrittenLine) → list_all (λ w. is_written w.written) ws ≡ true → list_all is_spelled ws ≡ true → token_lines k (lines_of (flat_map written_text (renumbered k ws))) ≡ Some (map spelled_line (renumbered k ws))
text_spelled k [] h e = refl
text_spelled k (w ∷ ws) h e =
    let written = and_parts (is_written w.written) (list_all (λ x. is_written x.written) ws) h in
    let fit = and_parts (is_spelled w) (list_all is_spelled ws) e in
    first_spelled k (written_tokens w.written) (flat_map written_text (renumbered (suc k) ws)) (map spelled_line (renumbered (suc k) ws)) fit.0 (not_empty w.written (written_tokens w.written) (written_read w.written written.0)) (text_spelled (suc k) ws written.1 fit.1)

-- the number of the first of these lines in a text of this version
abbrev pub first_of : ℕ → ℕ
first_of version = version

not_no_tokens : version_tokens ≡ [] → ⊥
not_no_tokens e = let z : ⊥ = cc in z

pub text_stands : (version : ℕ) → ((version ≡ 1) ⊎ (version ≡ 2)) → (ws : List WrittenLine) → list_all (λ w. is_written w.written) ws ≡ true → list_all is_spelled ws ≡ true
    → token_lines 1 (lines_of (canonical_text version (renumbered version ws))) ≡ Some (version_lines version 1 ++ map spelled_line (renumbered version ws))
unfolding canonical_text
text_stands version (inl is) ws h e =
    subst (λ v. token_lines 1 (lines_of (canonical_text v (renumbered v ws))) ≡ Some (version_lines v 1 ++ map spelled_line (renumbered v ws))) (sym is) (text_spelled 1 ws h e)
text_stands version (inr is) ws h e =
    subst (λ v. token_lines 1 (lines_of (canonical_text v (renumbered v ws))) ≡ Some (version_lines v 1 ++ map spelled_line (renumbered v ws))) (sym is)
    (first_spelled 1 version_tokens (flat_map written_text (renumbered 2 ws)) (map spelled_line (renumbered 2 ws)) refl not_no_tokens (text_spelled 2 ws h e))

-- ---- each line of a text can be spelled

abbrev all_fit : List TokenLine → Bool
all_fit ts = list_all (λ t. list_all is_token t.tokens) ts

fit_by : (n : ℕ) (l : List ℕ) (r : Result (List Token) TokenFault) (rest : Option (List TokenLine)) (ts : List TokenLine) → line_reading l ≡ r → ((us : List TokenLine) → rest ≡ Some us → all_fit us ≡ true) → with_token_line n r rest ≡ Some ts → all_fit ts ≡ true
fit_by n l (Ok []) rest ts is h e = h ts e
fit_by n l (Ok (t ∷ us)) (Some rs) ts is h e =
    let same : record { number = n; tokens = t ∷ us } ∷ rs ≡ ts = cc in
    subst (λ xs. all_fit xs ≡ true) same (ap (λ b. b && all_fit rs) (read_fit l (t ∷ us) is) ∙ h rs refl)
fit_by n l (Ok (t ∷ us)) None ts is h e = absurd (let z : ⊥ = cc in z)
fit_by n l (Err f) rest ts is h e = absurd (let z : ⊥ = cc in z)

all_are_fit : (n : ℕ) (lines : List (List ℕ)) (ts : List TokenLine) → token_lines n lines ≡ Some ts → all_fit ts ≡ true
all_are_fit n [] ts e = let same : [] ≡ ts = cc in subst (λ xs. all_fit xs ≡ true) same refl
all_are_fit n (l ∷ ls) ts e = fit_by n l (line_reading l) (token_lines (suc n) ls) ts refl (all_are_fit (suc n) ls) e

behind_fit : (xs ys : List TokenLine) → all_fit (xs ++ ys) ≡ true → all_fit ys ≡ true
behind_fit [] ys h = h
behind_fit (x ∷ xs) ys h = behind_fit xs ys (and_parts (list_all is_token x.tokens) (all_fit (xs ++ ys)) h).1

spelled_fit : (ws : List WrittenLine) → all_fit (map spelled_line ws) ≡ list_all is_spelled ws
spelled_fit [] = refl
spelled_fit (w ∷ ws) = ap (λ b. is_spelled w && b) (spelled_fit ws)

pub stands_fit : (text : List ℕ) (version first : ℕ) (ws : List WrittenLine) → token_lines 1 (lines_of text) ≡ Some (version_lines version first ++ map spelled_line ws) → list_all is_spelled ws ≡ true
stands_fit text version first ws e = sym (spelled_fit ws) ∙ behind_fit (version_lines version first) (map spelled_line ws) (all_are_fit 1 (lines_of text) (version_lines version first ++ map spelled_line ws) e)
