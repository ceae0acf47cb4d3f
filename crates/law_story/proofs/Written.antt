-- The text of a story is the canonical text of its lines.
use Rattle.std.proofs.Common.{◌≡◌, ◌⊎◌, inl, inr, ℕ, ◌+◌, ◌==◌, true, false, ◌||◌, List, [], ◌∷◌, ◌++◌, map, flat_map, length, codes, decimal, refl, sym, ap, ◌∙◌, subst, append-nil, append_assoc, arith}
use Rattle.std.specs.Prelude.{if◌then◌else◌}
use Rattle.std.specs.List.{list_all}
use Rattle.std.proofs.lemmas.Bool.{ne_eqb}
use Rattle.std.proofs.lemmas.List.Concat.{flat_map-append}
use Rattle.wdf_scene.specs.declared.line.NumberedLine.{NumberedLine}
use Rattle.wdf_scene.specs.declared.line.SceneExpr.{SceneExpr}
use Rattle.wdf_scene.specs.declared.line.SceneLine.{SceneLine}
use Rattle.wdf_scene.specs.declared.line.SceneLine.TheVariants as line
use Rattle.wdf_scene.specs.declared.scene.Scene.{Scene}
use Rattle.wdf_scene.specs.Written.{WrittenLine, exprs_at, is_written, line_at, lines_at, picks_in, written_size}
use Rattle.wdf_tokens.specs.declared.token.Token.TheVariants as token
use Rattle.wdf_tokens.specs.TokenTexts.{rest_text}
use Rattle.wdf_parse.specs.Canonical.{canonical_text, written_text}
use Rattle.wdf_parse.specs.Printing.{scene_line_text, version_text}
use Rattle.wdf_parse.proofs.PrintedLines.{lines_spelled}
use Rattle.wdf_refusals.specs.Numbered.{Every}
use Rattle.wdf_shrink.specs.Texts.{block_text, is_order, order_text, outside_texts, picks_text, story_text}
use Rattle.law_order.specs.Order.{PicksLine, order_block, picks_line}
use Rattle.law_order.proofs.Bodies.{begins_order}
use Rattle.law_story.proofs.Again.{end_block, story_lines}
use Rattle.law_story.proofs.Cuts.{HasCut, IsBare, IsParted}
use Rattle.law_story.proofs.Lines.{lines_both, same_exprs, size_of, text_renumbered, whole_lines}
use Rattle.law_story.proofs.Split.{IsOtherLine, order_anywhere, order_written}

-- ---- the lines outside the `order` block

same_test : (f : SceneLine) → is_order f ≡ begins_order f
same_test line.Order = refl
same_test _ = refl

module _ (exprs : List SceneExpr) where
  outside_others : (base : ℕ) (ws : List WrittenLine) (rest : List NumberedLine) → Every IsOtherLine ws → outside_texts exprs false (lines_at base ws ++ rest) ≡ flat_map (scene_line_text exprs) (lines_at base ws) ++ outside_texts exprs false rest
  outside_others base [] rest h = refl
  outside_others base (w ∷ ws) rest h =
      let l : NumberedLine = record { number = w.number; form = line_at base w.written; picks = picks_in w.written } in
      let further = base + written_size w.written in
      let other : is_order l.form ≡ false = same_test l.form ∙ order_anywhere base w.written ∙ h.0 in
      ap (λ b. (if false || b then [] else scene_line_text exprs l) ++ outside_texts exprs b (lines_at further ws ++ rest)) other
      ∙ ap (λ t. scene_line_text exprs l ++ t) (outside_others further ws rest h.1)
      ∙ sym (append_assoc (scene_line_text exprs l) (flat_map (scene_line_text exprs) (lines_at further ws)) (outside_texts exprs false rest))

  inside_picks : (ps : List PicksLine) (last : ℕ) (rest : List NumberedLine) → outside_texts exprs true ((map picks_line ps ++ record { number = last; form = line.End; picks = [] } ∷ []) ++ rest) ≡ outside_texts exprs false rest
  inside_picks [] last rest = refl
  inside_picks (p ∷ ps) last rest = inside_picks ps last rest

  outside_block : (first : ℕ) (ps : List PicksLine) (last : ℕ) (rest : List NumberedLine) → outside_texts exprs false (order_block first ps last ++ rest) ≡ outside_texts exprs false rest
  outside_block first ps last rest = inside_picks ps last rest

  outside_all : (base : ℕ) (ws : List WrittenLine) → Every IsOtherLine ws → outside_texts exprs false (lines_at base ws) ≡ flat_map (scene_line_text exprs) (lines_at base ws)
  outside_all base ws h =
      ap (outside_texts exprs false) (sym (append-nil (lines_at base ws))) ∙ outside_others base ws [] h ∙ append-nil (flat_map (scene_line_text exprs) (lines_at base ws))

-- the text of a scene with a block
parted_text : (version : ℕ) (before : List WrittenLine) (first : ℕ) (ps : List PicksLine) (last : ℕ) (after : List WrittenLine) → Every IsOtherLine before → Every IsOtherLine after → list_all (λ w. is_written w.written) (before ++ after) ≡ true
    → outside_texts (exprs_at 0 (before ++ (order_written first ps last ++ after))) false (lines_at 0 (before ++ (order_written first ps last ++ after))) ≡ flat_map written_text (before ++ after)
parted_text version before first ps last after none_before none_after written =
    let exprs = exprs_at 0 (before ++ (order_written first ps last ++ after)) in
    let back = lines_at (0 + size_of before) after in
    ap (outside_texts exprs false) (whole_lines version before first ps last after)
    ∙ outside_others exprs 0 before (order_block first ps last ++ back) none_before
    ∙ ap (λ t. flat_map (scene_line_text exprs) (lines_at 0 before) ++ t) (outside_block exprs first ps last back ∙ outside_all exprs (0 + size_of before) after none_after)
    ∙ sym (flat_map-append (scene_line_text exprs) (lines_at 0 before) back)
    ∙ ap (flat_map (scene_line_text exprs)) (sym (lines_both 0 before after))
    ∙ lines_spelled (before ++ after) exprs [] 0 (same_exprs version before first ps last after) refl written

bare_text : (ws : List WrittenLine) → Every IsOtherLine ws → list_all (λ w. is_written w.written) ws ≡ true → outside_texts (exprs_at 0 ws) false (lines_at 0 ws) ≡ flat_map written_text ws
bare_text ws others written = outside_all (exprs_at 0 ws) 0 ws others ∙ lines_spelled ws (exprs_at 0 ws) [] 0 refl refl written

text_by : (scene : Scene) (h : HasCut scene) → (IsParted scene h.ws ⊎ IsBare scene h.ws) → outside_texts scene.exprs false scene.lines ≡ flat_map written_text h.ws
text_by scene h (inl p) =
    ap (λ (s : Scene). outside_texts s.exprs false s.lines) p.whole
    ∙ parted_text scene.version p.before p.first p.picked p.last p.after p.none_before p.none_after (subst (λ ws. list_all (λ w. is_written w.written) ws ≡ true) p.cut_is h.cut.written)
    ∙ ap (flat_map written_text) (sym p.cut_is)
text_by scene h (inr b) = ap (λ (s : Scene). outside_texts s.exprs false s.lines) b.is ∙ bare_text h.ws b.others h.cut.written

-- ---- the block of the picks

picks_spelled : (picks : List ℕ) → rest_text (map (λ n. token.Number n) picks) ≡ picks_text picks ++ 10 ∷ []
picks_spelled [] = refl
picks_spelled (pick ∷ picks) =
    ap (λ (t : List ℕ). 32 ∷ (decimal pick ++ t)) (picks_spelled picks) ∙ ap (λ (t : List ℕ). 32 ∷ t) (sym (append_assoc (decimal pick) (picks_text picks) (10 ∷ [])))

block_spelled : (pick : ℕ) (picks : List ℕ) → flat_map written_text (end_block (pick ∷ picks)) ≡ block_text (pick ∷ picks)
block_spelled pick picks =
    let ns = pick ∷ picks in
    ap (λ (t : List ℕ). codes "order\npicks" ++ (t ++ codes "end\n")) (picks_spelled ns)
    ∙ ap (λ (t : List ℕ). codes "order\npicks" ++ t) (append_assoc (picks_text ns) (10 ∷ []) (codes "end\n"))
    ∙ sym (append_assoc (codes "order\npicks") (picks_text ns) (codes "\nend\n"))

order_spelled : (picks : List ℕ) → order_text picks ≡ flat_map written_text (end_block picks)
order_spelled [] = refl
order_spelled (pick ∷ picks) =
    let some' : (length (pick ∷ picks) == 0) ≡ false = ne_eqb (length (pick ∷ picks)) 0 (λ e. absurd (omega (arith, e))) in
    ap (λ b. if b then [] else block_text (pick ∷ picks)) some' ∙ sym (block_spelled pick picks)

-- ---- the whole text

pub story_is : (scene : Scene) (h : HasCut scene) (picks : List ℕ) → story_text scene picks ≡ canonical_text scene.version (story_lines scene.version h.ws picks)
unfolding canonical_text
story_is scene h picks =
    ap (λ (t : List ℕ). version_text scene.version ++ t ++ order_text picks) (text_by scene h h.parts)
    ∙ append_assoc (version_text scene.version) (flat_map written_text h.ws) (order_text picks)
    ∙ ap (λ (t : List ℕ). version_text scene.version ++ (flat_map written_text h.ws ++ t)) (order_spelled picks)
    ∙ ap (λ (t : List ℕ). version_text scene.version ++ t) (sym (flat_map-append written_text h.ws (end_block picks)) ∙ sym (text_renumbered scene.version (h.ws ++ end_block picks)))
