-- A moved scene can be written where the scene can.
use Rattle.std.proofs.Common.{◌≡◌, ℕ, suc, ◌+◌, ◌-◌, ◌%◌, ◌<◌, ◌^◌, true, ◌&&◌, min, nat_lt, List, [], ◌∷◌, refl, ap, ◌∙◌, arith}
use Rattle.std.specs.List.{list_all}
use Rattle.std.proofs.lemmas.Bool.{and_parts, lt-ltb, ltb-true}
use Rattle.wdf_scene.specs.declared.line.NumberedLine.{NumberedLine}
use Rattle.wdf_scene.specs.declared.line.SceneLine.{SceneLine}
use Rattle.wdf_scene.specs.declared.line.SceneLine.TheVariants as line
use Rattle.wdf_scene.specs.declared.scene.Scene.{Scene}
use Rattle.wdf_scene.specs.Written.{Written, Plain, WrittenLine}
use Rattle.wdf_tokens.specs.declared.token.Token.{Token}
use Rattle.wdf_tokens.specs.declared.token.Token.TheVariants as token
use Rattle.wdf_tokens.specs.WellFormed.{is_token}
use Rattle.wdf_base.specs.Words.{ask_word}
use Rattle.wdf_tokens.specs.declared.keyword.Keyword.TheVariants as keyword
use Rattle.wdf_tokens.specs.WordTokens as tokens
use Rattle.wdf_scene_lines.specs.Spelling.{action_then, plain_tokens, written_tokens}
use Rattle.wdf_jitter.specs.Moved.{moved_form, moved_lines, moved_scene, moved_tick}
use Rattle.wdf_jitter.proofs.Texts.{are_written_alike, moved_is, moved_writings, moved_written, whole_alike}
use Rattle.law_story.specs.Spelled.{AreRising, IsSpelled, is_spelled}

-- ---- a moved tick can be written

tick_fits : (most word t : ℕ) → nat_lt t (2 ^ 64) ≡ true → nat_lt (moved_tick most word t) (2 ^ 64) ≡ true
tick_fits most word t h =
    let below : t < 2 ^ 64 = ltb-true t (2 ^ 64) h in
    let still : t + min (word % suc most) (1000000 - t) < 2 ^ 64 = omega (arith, below) in
    lt-ltb (t + min (word % suc most) (1000000 - t)) (2 ^ 64) still

-- a line with a tick at its second place
after_tick : (most word t : ℕ) (rest : List Token) → (nat_lt t (2 ^ 64) && list_all is_token rest) ≡ true → (nat_lt (moved_tick most word t) (2 ^ 64) && list_all is_token rest) ≡ true
after_tick most word t rest h =
    let parts = and_parts (nat_lt t (2 ^ 64)) (list_all is_token rest) h in
    ap (λ b. b && list_all is_token rest) (tick_fits most word t parts.0) ∙ parts.1

form_fits : (most word : ℕ) (form : SceneLine) → list_all is_token (plain_tokens form) ≡ true → list_all is_token (plain_tokens (moved_form most word form)) ≡ true
form_fits most word (line.At t action) h = after_tick most word t (action_then action []) h
form_fits most word (line.AtRead t d n) h = after_tick most word t (tokens.word keyword.Read ∷ token.Word d ∷ token.Number n ∷ []) h
form_fits most word (line.AtWrite t d n) h = after_tick most word t (tokens.word keyword.Write ∷ token.Word d ∷ token.Number n ∷ []) h
form_fits most word (line.AtControl t d code n) h = after_tick most word t (tokens.word keyword.Control ∷ token.Word d ∷ token.Number code ∷ token.Number n ∷ []) h
form_fits most word (line.AtCancel t k) h = after_tick most word t (tokens.word keyword.Cancel ∷ token.Number k ∷ []) h
form_fits most word (line.AtAsk t ask d) h = after_tick most word t (token.Word (ask_word ask) ∷ token.Word d ∷ []) h
form_fits most word form h = h

written_fits : (most word : ℕ) (w : Written) → list_all is_token (written_tokens w) ≡ true → list_all is_token (written_tokens (moved_written most word w)) ≡ true
unfolding moved_written
written_fits most word (Plain form) h = form_fits most word form h
written_fits most word _ h = h

all_fit : (most : ℕ) (words : List ℕ) (ws : List WrittenLine) → list_all is_spelled ws ≡ true → list_all is_spelled (moved_writings most words ws) ≡ true
unfolding moved_writings
all_fit most words [] h = refl
all_fit most [] (w ∷ ws) h = h
all_fit most (word ∷ words) (w ∷ ws) h =
    let parts = and_parts (is_spelled w) (list_all is_spelled ws) h in
    ap (λ b. b && list_all is_spelled (moved_writings most words ws)) (written_fits most word w.written parts.0) ∙ all_fit most words ws parts.1

-- ---- its lines have the same numbers

still_rising : (most : ℕ) (words : List ℕ) (n : ℕ) (ls : List NumberedLine) → AreRising n ls → AreRising n (moved_lines most words ls)
still_rising most words n [] h = tt
still_rising most [] n (l ∷ ls) h = h
still_rising most (word ∷ words) n (l ∷ ls) h = (h.0, still_rising most words (suc l.number) ls h.1)

pub spelled_moved : (most : ℕ) (words : List ℕ) (scene : Scene) → IsSpelled scene → IsSpelled (moved_scene most words scene)
spelled_moved most words scene is = record {
  ws = moved_writings most words is.ws;
  is = moved_is most words scene is.ws is.is;
  lines = record {
    known = is.lines.known;
    written = are_written_alike most words is.ws ∙ is.lines.written;
    whole = whole_alike most scene.version words is.ws is.lines.whole;
  };
  fit = all_fit most words is.ws is.fit;
  rising = still_rising most words 1 scene.lines is.rising;
}
