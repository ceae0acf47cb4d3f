-- The generated scene stands for its printed text.
use Rattle.std.proofs.Common.{◌≡◌, ℕ, suc, ◌+◌, ◌/◌, ◌%◌, ◌^◌, ◌<◌, Bool, true, false, ◌&&◌, cond, nat_lt, inl, List, [], ◌∷◌, ◌++◌, map, Option, Some, option_map, refl, ap, ◌∙◌, sym, subst, append_assoc, arith, codes}
use Rattle.std.specs.Prelude.{◌==◌, flat_map, IsTrue, IsSomeAnd}
use Rattle.std.specs.List.{list_all}
use Rattle.std.proofs.Math.Nat.{mod-lt}
use Rattle.std.proofs.lemmas.Bool.{lt-ltb}
use Rattle.std.proofs.lemmas.List.Folds.{list_all-append}
use Rattle.wdf_base.proofs.Tests.{both_left, both_right}
use Rattle.wdf_scene.specs.declared.block.Block.TheVariants as block
use Rattle.wdf_scene.specs.declared.line.SceneLine.{SceneLine}
use Rattle.wdf_scene.specs.declared.line.SceneLine.TheVariants as line
use Rattle.wdf_scene.specs.Blocks.{Position, front, after_lines, is_outside}
use Rattle.wdf_scene.specs.Written.{Written, Plain, WrittenLine, is_written, line_at, written_size, lines_at, scene_of, AreLines}
use Rattle.wdf_tokens.specs.declared.token.Token.{Token}
use Rattle.wdf_tokens.specs.TokenTexts.{line_text}
use Rattle.wdf_tokens.specs.Tokens.{lines_of}
use Rattle.wdf_tokens.specs.WellFormed.{is_token}
use Rattle.wdf_tokens.proofs.Respelling.{line_is_read, first_line_text}
use Rattle.wdf_scene_lines.specs.Spelling.{written_tokens}
use Rattle.wdf_parse.specs.Canonical.{written_text, canonical_text}
use Rattle.wdf_parse.specs.Printing.{printed}
use Rattle.wdf_parse.specs.StandsFor.{TokenLine, with_token_line, token_lines, spelled_line, StandsFor}
use Rattle.wdf_parse.proofs.ReadBack.{printed_canonical}
use Rattle.wdf_gen.specs.Generated.{seed_words, length_read, read_form, reads_from, app_lines, head_lines, text_lines, numbered, generated}

-- ---- each line is spelled

abbrev is_there : List Token → Bool
is_there [] = false
is_there (t ∷ ts) = true

-- a line of the language, whose tokens can be spelled
abbrev is_good : Written → Bool
is_good w = is_written w && (list_all is_token (written_tokens w) && is_there (written_tokens w))

small_length : (b : Bool) (x : ℕ) → nat_lt (cond b 0 (1 + x % 4096)) (2 ^ 64) ≡ true
small_length true x = refl
small_length false x =
    let below : x % 4096 < 4096 = mod-lt x (omega arith) in
    lt-ltb (1 + x % 4096) (2 ^ 64) (omega (arith, below))

read_by : (b : Bool) (n : ℕ) → nat_lt n (2 ^ 64) ≡ true → is_good (Plain (line.AtRead 0 (cond b (codes "E") (codes "F")) n)) ≡ true
read_by true n h = rw h refl
read_by false n h = rw h refl

read_good : (k w : ℕ) → is_good (Plain (read_form k w)) ≡ true
read_good k w = read_by (w % 2 == 0) (length_read k w) (small_length (k % 29 == 0) (w / 2))

both_good : (xs ys : List Written) → list_all is_good xs ≡ true → list_all is_good ys ≡ true → list_all is_good (xs ++ ys) ≡ true
both_good xs ys h e = list_all-append is_good xs ys ∙ ap (λ b. b && list_all is_good ys) h ∙ e

lines_good : (b : Bool) (k w : ℕ) (rest : List Written) → list_all is_good rest ≡ true → list_all is_good (cond b (Plain (read_form k w) ∷ []) [] ++ rest) ≡ true
lines_good false k w rest h = h
lines_good true k w rest h = ap (λ b. b && list_all is_good rest) (read_good k w) ∙ h

reads_good : (a k : ℕ) (ws : List ℕ) → list_all is_good (reads_from a k ws) ≡ true
unfolding reads_from
reads_good a k [] = refl
reads_good a k (w ∷ ws) = lines_good (k % 4 == a) k w (reads_from a (suc k) ws) (reads_good a (suc k) ws)

app_good : (name : List ℕ) (a : ℕ) (ws : List ℕ) → is_good (Plain (line.App name)) ≡ true → list_all is_good (app_lines name a ws) ≡ true
app_good name a ws h =
    ap (λ b. b && list_all is_good (reads_from a 0 ws ++ Plain line.End ∷ [])) h
    ∙ both_good (reads_from a 0 ws) (Plain line.End ∷ []) (reads_good a 0 ws) refl

head_good : list_all is_good head_lines ≡ true
head_good = refl

text_good : (ws : List ℕ) → list_all is_good (text_lines ws) ≡ true
text_good ws =
    let a0 = app_lines (codes "A0") 0 ws in
    let a1 = app_lines (codes "A1") 1 ws in
    let a2 = app_lines (codes "A2") 2 ws in
    let a3 = app_lines (codes "A3") 3 ws in
    both_good (head_lines ++ a0 ++ a1 ++ a2) a3
    (both_good (head_lines ++ a0 ++ a1) a2
    (both_good (head_lines ++ a0) a1
    (both_good head_lines a0 head_good (app_good (codes "A0") 0 ws refl)) (app_good (codes "A1") 1 ws refl)) (app_good (codes "A2") 2 ws refl)) (app_good (codes "A3") 3 ws refl)

-- ---- the printed text is read as these lines

line_spelled : (k : ℕ) (ts : List Token) (rest : List ℕ) (ls : List TokenLine) → list_all is_token ts ≡ true → is_there ts ≡ true → token_lines (suc k) (lines_of rest) ≡ Some ls → token_lines k (lines_of (line_text ts ++ rest)) ≡ Some (record { number = k; tokens = ts } ∷ ls)
line_spelled k [] rest ls fit there behind = absurd (let z : ⊥ = cc in z)
line_spelled k (t ∷ ts) rest ls fit there behind =
    ap (token_lines k) (first_line_text (t ∷ ts) rest fit)
    ∙ ap (λ r. with_token_line k r (token_lines (suc k) (lines_of rest))) (line_is_read (t ∷ ts) fit)
    ∙ ap (option_map (λ (xs : List TokenLine). record { number = k; tokens = t ∷ ts } ∷ xs)) behind

text_spelled : (k : ℕ) (ws : List Written) → list_all is_good ws ≡ true → token_lines k (lines_of (flat_map written_text (numbered k ws))) ≡ Some (map spelled_line (numbered k ws))
text_spelled k [] h = refl
text_spelled k (w ∷ ws) h =
    let here = both_right (is_written w) (list_all is_token (written_tokens w) && is_there (written_tokens w)) (both_left (is_good w) (list_all is_good ws) h) in
    line_spelled k (written_tokens w) (flat_map written_text (numbered (suc k) ws)) (map spelled_line (numbered (suc k) ws))
    (both_left (list_all is_token (written_tokens w)) (is_there (written_tokens w)) here)
    (both_right (list_all is_token (written_tokens w)) (is_there (written_tokens w)) here)
    (text_spelled (suc k) ws (both_right (is_good w) (list_all is_good ws) h))

all_written : (k : ℕ) (ws : List Written) → list_all is_good ws ≡ true → list_all (λ (w : WrittenLine). is_written w.written) (numbered k ws) ≡ true
all_written k [] h = refl
all_written k (w ∷ ws) h =
    let here = both_left (is_written w) (list_all is_token (written_tokens w) && is_there (written_tokens w)) (both_left (is_good w) (list_all is_good ws) h) in
    ap (λ b. b && list_all (λ (v : WrittenLine). is_written v.written) (numbered (suc k) ws)) here
    ∙ all_written (suc k) ws (both_right (is_good w) (list_all is_good ws) h)

-- ---- each line is where it may be

-- the forms of some lines
abbrev forms : ℕ → List Written → List SceneLine
forms base [] = []
forms base (w ∷ ws) = line_at base w ∷ forms (base + written_size w) ws

forms_are : (base k : ℕ) (ws : List Written) → map (λ l. l.form) (lines_at base (numbered k ws)) ≡ forms base ws
forms_are base k [] = refl
forms_are base k (w ∷ ws) = ap (λ (fs : List SceneLine). line_at base w ∷ fs) (forms_are (base + written_size w) (suc k) ws)

-- an app in front of other lines
abbrev pub app_then : List ℕ → ℕ → List ℕ → List Written → List Written
app_then name a ws rest = Plain (line.App name) ∷ (reads_from a 0 ws ++ (Plain line.End ∷ rest))

app_nested : (name : List ℕ) (a : ℕ) (ws : List ℕ) (rest : List Written) → app_lines name a ws ++ rest ≡ app_then name a ws rest
app_nested name a ws rest = ap (λ (xs : List Written). Plain (line.App name) ∷ xs) (append_assoc (reads_from a 0 ws) (Plain line.End ∷ []) rest)

-- the four apps
abbrev pub apps_of : List ℕ → List Written
apps_of ws = app_then (codes "A0") 0 ws (app_then (codes "A1") 1 ws (app_then (codes "A2") 2 ws (app_then (codes "A3") 3 ws [])))

pub text_nested : (ws : List ℕ) → text_lines ws ≡ head_lines ++ apps_of ws
text_nested ws =
    let a0 = app_lines (codes "A0") 0 ws in
    let a1 = app_lines (codes "A1") 1 ws in
    let a2 = app_lines (codes "A2") 2 ws in
    let a3 = app_lines (codes "A3") 3 ws in
    let from2 : a2 ++ a3 ≡ app_then (codes "A2") 2 ws a3 = app_nested (codes "A2") 2 ws a3 in
    let from1 : a1 ++ (a2 ++ a3) ≡ app_then (codes "A1") 1 ws (app_then (codes "A2") 2 ws a3) =
    app_nested (codes "A1") 1 ws (a2 ++ a3) ∙ ap (app_then (codes "A1") 1 ws) from2 in
    let from0 : a0 ++ (a1 ++ (a2 ++ a3)) ≡ apps_of ws =
    app_nested (codes "A0") 0 ws (a1 ++ (a2 ++ a3)) ∙ ap (app_then (codes "A0") 0 ws) from1 in
    append_assoc (head_lines ++ a0 ++ a1) a2 a3
    ∙ append_assoc (head_lines ++ a0) a1 (a2 ++ a3)
    ∙ append_assoc head_lines a0 (a1 ++ (a2 ++ a3))
    ∙ ap (λ (xs : List Written). head_lines ++ xs) from0

-- after the first three lines, in no block
abbrev between : Position
between = record { version = 1; headers = 3; blocks = []; driver = false; pnp = false; order = false }

abbrev in_an_app : Position
in_an_app = record between { blocks = block.App ∷ [] }

one_stands : (b : Bool) (k w : ℕ) (rest : List Written) → after_lines (Some in_an_app) (forms 10 (cond b (Plain (read_form k w) ∷ []) [] ++ rest)) ≡ after_lines (Some in_an_app) (forms 10 rest)
one_stands true k w rest = refl
one_stands false k w rest = refl

reads_stand : (a k : ℕ) (ws : List ℕ) (rest : List Written) → after_lines (Some in_an_app) (forms 10 (reads_from a k ws ++ rest)) ≡ after_lines (Some in_an_app) (forms 10 rest)
unfolding reads_from
reads_stand a k [] rest = refl
reads_stand a k (w ∷ ws) rest =
    let reads : List Written = cond (k % 4 == a) (Plain (read_form k w) ∷ []) [] in
    ap (λ (xs : List Written). after_lines (Some in_an_app) (forms 10 xs)) (append_assoc reads (reads_from a (suc k) ws) rest)
    ∙ one_stands (k % 4 == a) k w (reads_from a (suc k) ws ++ rest)
    ∙ reads_stand a (suc k) ws rest

app_stands : (name : List ℕ) (a : ℕ) (ws : List ℕ) (rest : List Written) → after_lines (Some between) (forms 10 (app_then name a ws rest)) ≡ after_lines (Some between) (forms 10 rest)
app_stands name a ws rest = reads_stand a 0 ws (Plain line.End ∷ rest)

head_stands : (rest : List Written) → after_lines (Some (front 1)) (forms 0 (head_lines ++ rest)) ≡ after_lines (Some between) (forms 10 rest)
head_stands rest = refl

text_stands : (ws : List ℕ) → after_lines (Some (front 1)) (map (λ l. l.form) (lines_at 0 (numbered 1 (text_lines ws)))) ≡ Some between
text_stands ws =
    let b3 = app_then (codes "A3") 3 ws [] in
    let b2 = app_then (codes "A2") 2 ws b3 in
    let b1 = app_then (codes "A1") 1 ws b2 in
    ap (after_lines (Some (front 1))) (forms_are 0 1 (text_lines ws))
    ∙ ap (λ (xs : List Written). after_lines (Some (front 1)) (forms 0 xs)) (text_nested ws)
    ∙ head_stands (apps_of ws)
    ∙ app_stands (codes "A0") 0 ws b1
    ∙ app_stands (codes "A1") 1 ws b2
    ∙ app_stands (codes "A2") 2 ws b3
    ∙ app_stands (codes "A3") 3 ws []

is_whole : (p : Option Position) → p ≡ Some between → IsSomeAnd p (λ q. IsTrue (is_outside q))
is_whole p e = subst (λ o. IsSomeAnd o (λ q. IsTrue (is_outside q))) (sym e) refl

-- ---- the scene

lines_there : (ws : List ℕ) → AreLines 1 (numbered 1 (text_lines ws))
lines_there ws = record {
  known = inl refl;
  written = all_written 1 (text_lines ws) (text_good ws);
  whole = is_whole _ (text_stands ws);
}

text_stands_for : (ws : List ℕ) → StandsFor (printed (scene_of 1 (numbered 1 (text_lines ws)))) (scene_of 1 (numbered 1 (text_lines ws)))
unfolding canonical_text
text_stands_for ws = record {
  first = 0;
  ws = numbered 1 (text_lines ws);
  tokens =
      ap (λ (t : List ℕ). token_lines 1 (lines_of t)) (printed_canonical 1 (numbered 1 (text_lines ws)) (all_written 1 (text_lines ws) (text_good ws)))
      ∙ text_spelled 1 (text_lines ws) (text_good ws);
  is = refl;
  lines = lines_there ws;
}

pub generated_stands : (n : ℕ) → StandsFor (printed (generated n)) (generated n)
unfolding generated
generated_stands n = text_stands_for (seed_words n)
