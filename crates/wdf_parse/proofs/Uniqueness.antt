-- A scene that stands for a text is the one that is read.
use Rattle.std.proofs.Common.{◌≡◌, ℕ, true, List, [], ◌∷◌, map, length, Option, Some, None, Result, Ok, Err, IsSomeAnd, IsTrue, refl, ap, ◌∙◌, sym, subst, arith}
use Rattle.std.specs.Prelude.{◌==◌, IfOk, IfErr}
use Rattle.std.specs.Option.{is_none}
use Rattle.wdf_base.proofs.Tests.{both_left, both_right}
use Rattle.wdf_scene.specs.declared.block.Block.{Block}
use Rattle.wdf_scene.specs.Blocks.{Position, front, innermost, is_outside, after_lines}
use Rattle.wdf_scene.specs.Written.{lines_at, exprs_at}
use Rattle.wdf_tokens.specs.Tokens.{lines_of}
use Rattle.wdf_scene.specs.declared.scene.Scene.{Scene}
use Rattle.wdf_parse.specs.declared.refusal.ParseRefusal.{ParseRefusal}
use Rattle.wdf_parse.specs.declared.refusal.ParseRefusal.TheVariants as refusal
use Rattle.wdf_parse.specs.Laws.{IsNoScene}
use Rattle.wdf_parse.specs.StandsFor.{StandsFor}
use Rattle.wdf_parse.specs.Texts.{opening, reading, IsRefusalOf}
use Rattle.wdf_parse.proofs.Built.{read_stands, scene_parts, adds}
use Rattle.wdf_parse.proofs.Forward.{forward_front}
use Rattle.wdf_parse.proofs.ReadBack.{reading_ends}

-- what is read stands for the text
pub stands_if : (text : List ℕ) (r : Result Scene ParseRefusal) → IfOk r (λ s. reading text ≡ Ok s) → IfOk r (StandsFor text)
stands_if text (Ok s) h = read_stands text s h
stands_if text (Err e) h = tt

-- a position of some, with what holds of it
record Found (o : Option Position) (P : Position → Type 0) : Type 0 where
  at : Position
  is : o ≡ Some at
  holds : P at

found : (o : Option Position) (P : Position → Type 0) → IsSomeAnd o P → Found o P
found None P h = absurd h
found (Some p) P h = record { at = p; is = refl; holds = h }

no_blocks : (bs : List Block) → is_none (innermost bs) ≡ true → length bs ≡ 0
no_blocks [] h = refl
no_blocks (b ∷ bs) h = absurd (let z : ⊥ = cc in z)

empty_list : (ns : List ℕ) → length ns ≡ 0 → ns ≡ []
empty_list [] h = refl
empty_list (n ∷ ns) h = absurd (omega arith)

-- a scene that stands for a text is read of it
pub stands_read : (text : List ℕ) (s : Scene) → StandsFor text s → reading text ≡ Ok s
stands_read text s h =
    let f = found (after_lines (Some (front s.version)) (map (λ l. l.form) (lines_at 0 h.ws))) (λ p. IsTrue (is_outside p)) h.lines.whole in
    let r = forward_front s.version h.lines.known (lines_of text) 1 h.first h.ws f.at h.tokens h.lines.written f.is in
    let a = adds h.ws r.now (opening s.version) r.taken in
    let same : f.at ≡ r.now.place.position = let both : Some f.at ≡ Some r.now.place.position = sym f.is ∙ a.position in cc in
    let ends : IsTrue (is_outside r.now.place.position) = subst (λ p. IsTrue (is_outside p)) same f.holds in
    let headers : (r.now.place.position.headers == 3) ≡ true = both_left (r.now.place.position.headers == 3) (is_none (innermost r.now.place.position.blocks)) ends in
    let inside : is_none (innermost r.now.place.position.blocks) ≡ true = both_right (r.now.place.position.headers == 3) (is_none (innermost r.now.place.position.blocks)) ends in
    let openers : r.now.place.openers ≡ [] = empty_list r.now.place.openers (a.balance refl ∙ no_blocks r.now.place.position.blocks inside) in
    let scene : s ≡ r.now.builder = h.is ∙ sym (scene_parts r.now.builder s.version (lines_at 0 h.ws) (exprs_at 0 h.ws) a.version a.lines a.exprs) in
    reading_ends text r.now r.gives headers openers ∙ ap (λ (x : Scene). Ok x) (sym scene)

pub one_stands : (text : List ℕ) (a b : Scene) → StandsFor text a → StandsFor text b → a ≡ b
one_stands text a b h e =
    let first : reading text ≡ Ok a = stands_read text a h in
    let second : reading text ≡ Ok b = stands_read text b e in
    cc

none_by : (text : List ℕ) (e : ParseRefusal) → reading text ≡ Err e → (s : Scene) → StandsFor text s → ⊥
none_by text e is s h = let other : reading text ≡ Ok s = stands_read text s h in cc

refusal_none : (text : List ℕ) (e : ParseRefusal) → IsRefusalOf (reading text) e → IsNoScene text e
refusal_none text (refusal.NotAscii l) h = none_by text (refusal.NotAscii l) h
refusal_none text (refusal.BadToken l c) h = none_by text (refusal.BadToken l c) h
refusal_none text (refusal.BadLine l) h = none_by text (refusal.BadLine l) h
refusal_none text (refusal.Unclosed l) h = none_by text (refusal.Unclosed l) h
refusal_none text (refusal.NumberTooLarge l c) h = none_by text (refusal.NumberTooLarge l c) h
refusal_none text refusal.Memory h = tt

-- a text that is refused has no scene
pub none_if : (text : List ℕ) (r : Result Scene ParseRefusal) → IfErr r (IsRefusalOf (reading text)) → IfErr r (IsNoScene text)
none_if text (Ok s) h = tt
none_if text (Err e) h = refusal_none text e h
