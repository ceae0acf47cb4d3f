-- A scene that can be written, without its `order` block.
use Rattle.std.proofs.Common.{◌≡◌, ◌⊎◌, inl, inr, ℕ, ◌+◌, Bool, true, ◌&&◌, not, List, [], ◌∷◌, ◌++◌, map, flat_map, None, refl, sym, ap, ◌∙◌, subst, append-nil, append_assoc}
use Rattle.std.specs.Prelude.{◌==◌}
use Rattle.std.specs.Option.{is_none}
use Rattle.std.specs.List.{list_all}
use Rattle.std.proofs.lemmas.Bool.{and_parts}
use Rattle.std.proofs.lemmas.List.{map-append}
use Rattle.std.proofs.lemmas.List.Concat.{flat_map-append}
use Rattle.std.proofs.lemmas.List.Folds.{list_all-append}
use Rattle.wdf_scene.specs.declared.line.NumberedLine.{NumberedLine}
use Rattle.wdf_scene.specs.declared.line.SceneLine.{SceneLine}
use Rattle.wdf_scene.specs.declared.line.SceneLine.TheVariants as line
use Rattle.wdf_scene.specs.declared.scene.Scene.{Scene}
use Rattle.wdf_scene.specs.declared.block.Block.{Block}
use Rattle.wdf_scene.specs.Blocks.{Position, front, innermost, is_outside, may_stand}
use Rattle.wdf_scene.specs.Written.{IsScene, WrittenLine, is_written, lines_at, scene_of, written_size, AreLines}
use Rattle.wdf_refusals.specs.First.{first_refusal}
use Rattle.wdf_refusals.specs.Numbered.{Every}
use Rattle.wdf_refusals.proofs.Heads.{Ends, form_of}
use Rattle.wdf_plan.specs.Parts.{line_picks}
use Rattle.wdf_plan.specs.Plans.{plan_of}
use Rattle.law_order.specs.Order.{PicksLine, order_block, picks_line}
use Rattle.law_order.proofs.Order.{bare_accepted, plan_without}
use Rattle.law_story.specs.Spelled.{AreRising, IsSpelled, is_spelled}
use Rattle.law_story.proofs.Lines.{cut_scene, lines_both, rise_without, size_of, whole_lines}
use Rattle.law_story.proofs.Positions.{Between, IsOpenAfter, IsOtherForm, between, open_cut, open_without, past_order}
use Rattle.law_story.proofs.Split.{HasOrder, IsOtherLine, order_anywhere, order_written, split}
use Rattle.law_story.proofs.Unpicked.{NoneOpen, unpicked}

-- lines without an `order` block, to which one may be added
pub record IsCut (version : ℕ) (ws : List WrittenLine) : Type 0 where
  pub written : list_all (λ w. is_written w.written) ws ≡ true
  pub fit : list_all is_spelled ws ≡ true
  pub none_open : IsOpenAfter (front version) (map form_of (lines_at 0 ws))
  pub unpicks : flat_map line_picks (lines_at 0 ws) ≡ []
  pub rising : AreRising 1 (lines_at 0 ws)

-- a scene has these lines, and an `order` block between some of them
pub record IsParted (scene : Scene) (ws : List WrittenLine) : Type 0 where
  pub before : List WrittenLine
  pub first : ℕ
  pub picked : List PicksLine
  pub last : ℕ
  pub after : List WrittenLine
  pub whole : scene ≡ scene_of scene.version (before ++ (order_written first picked last ++ after))
  pub cut_is : ws ≡ before ++ after
  pub none_before : Every IsOtherLine before
  pub none_after : Every IsOtherLine after

-- a scene has these lines, and no `order` block
pub record IsBare (scene : Scene) (ws : List WrittenLine) : Type 0 where
  pub is : scene ≡ scene_of scene.version ws
  pub others : Every IsOtherLine ws

-- the lines of a scene without its block
pub record HasCut (scene : Scene) : Type 0 where
  pub ws : List WrittenLine
  pub cut : IsCut scene.version ws
  pub known : (scene.version ≡ 1) ⊎ (scene.version ≡ 2)
  pub parts : IsParted scene ws ⊎ IsBare scene ws
  pub plans : record (plan_of scene) { picks = [] } ≡ record (plan_of (scene_of scene.version ws)) { picks = [] }
  pub accepted : first_refusal scene ≡ None → first_refusal (scene_of scene.version ws) ≡ None

other_forms : (base : ℕ) (ws : List WrittenLine) → Every IsOtherLine ws → Every IsOtherForm (map form_of (lines_at base ws))
other_forms base [] h = tt
other_forms base (w ∷ ws) h = (order_anywhere base w.written ∙ h.0, other_forms (base + written_size w.written) ws h.1)

picks_forms : (ps : List PicksLine) → Every (λ f. f ≡ line.Picks) (map form_of (map picks_line ps))
picks_forms [] = tt
picks_forms (p ∷ ps) = (refl, picks_forms ps)

no_blocks : (bs : List Block) → is_none (innermost bs) ≡ true → NoneOpen bs
no_blocks [] e = tt
no_blocks (b ∷ bs) e = absurd (let z : ⊥ = cc in z)

-- where `order` may come no block is open
empty_open : (q : Position) → may_stand q line.Order ≡ true → NoneOpen q.blocks
empty_open q may = no_blocks q.blocks (and_parts (q.headers == 3) (is_none (innermost q.blocks)) (and_parts (is_outside q) (not q.order) may).0).1

-- ---- a scene with no `order` block

module _ (version : ℕ) (ws : List WrittenLine) (lines : AreLines version ws) (fit : list_all is_spelled ws ≡ true) (rising : AreRising 1 (lines_at 0 ws)) (others : Every IsOtherLine ws) where
  ends_bare : Ends (front version) (map form_of (lines_at 0 ws) ++ [])
  ends_bare = subst (Ends (front version)) (sym (append-nil (map form_of (lines_at 0 ws)))) lines.whole

  is_cut : IsCut version ws
  is_cut = record {
    written = lines.written;
    fit = fit;
    none_open = open_without (front version) (map form_of (lines_at 0 ws)) (other_forms 0 ws others) refl ends_bare;
    unpicks = unpicked (front version) 0 ws [] others tt ends_bare;
    rising = rising;
  }

-- ---- a scene with one

module _ (version : ℕ) (before : List WrittenLine) (first : ℕ) (ps : List PicksLine) (last : ℕ) (after : List WrittenLine) where
  abbrev whole : List WrittenLine
  whole = before ++ (order_written first ps last ++ after)

  abbrev back : List NumberedLine
  back = lines_at (0 + size_of before) after

  abbrev ahead : List SceneLine
  ahead = map form_of (lines_at 0 before)

  abbrev behind : List SceneLine
  behind = map form_of (lines_at (0 + size_of before) after)

  block_forms : map form_of (order_block first ps last ++ back) ≡ line.Order ∷ (map form_of (map picks_line ps) ++ line.End ∷ behind)
  block_forms =
      ap (λ (fs : List SceneLine). line.Order ∷ fs)
      (map-append form_of (map picks_line ps ++ record { number = last; form = line.End; picks = [] } ∷ []) back
      ∙ ap (λ (fs : List SceneLine). fs ++ behind) (map-append form_of (map picks_line ps) (record { number = last; form = line.End; picks = [] } ∷ []))
      ∙ append_assoc (map form_of (map picks_line ps)) (line.End ∷ []) behind)

  whole_forms : map form_of (lines_at 0 whole) ≡ ahead ++ (line.Order ∷ (map form_of (map picks_line ps) ++ line.End ∷ behind))
  whole_forms =
      ap (map form_of) (whole_lines version before first ps last after)
      ∙ map-append form_of (lines_at 0 before) (order_block first ps last ++ back)
      ∙ ap (λ (fs : List SceneLine). ahead ++ fs) block_forms

  cut_forms : map form_of (lines_at 0 (before ++ after)) ≡ ahead ++ behind
  cut_forms = ap (map form_of) (lines_both 0 before after) ∙ map-append form_of (lines_at 0 before) back

  all_without : (f : WrittenLine → Bool) → list_all f whole ≡ true → list_all f (before ++ after) ≡ true
  all_without f h =
      let parts = and_parts (list_all f before) (list_all f (order_written first ps last ++ after)) (sym (list_all-append f before (order_written first ps last ++ after)) ∙ h) in
      let rest = and_parts (list_all f (order_written first ps last)) (list_all f after) (sym (list_all-append f (order_written first ps last) after) ∙ parts.1) in
      list_all-append f before after ∙ ap (λ b. b && list_all f after) parts.0 ∙ rest.1

  module _ (lines : AreLines version whole) (fit : list_all is_spelled whole ≡ true) (rising : AreRising 1 (lines_at 0 whole)) (none_before : Every IsOtherLine before) (none_after : Every IsOtherLine after) where
    ends : Ends (front version) (ahead ++ (line.Order ∷ (map form_of (map picks_line ps) ++ line.End ∷ behind)))
    ends = subst (Ends (front version)) whole_forms lines.whole

    opens : IsOpenAfter (front version) (ahead ++ behind)
    opens = open_cut (front version) ahead (map form_of (map picks_line ps)) behind (other_forms 0 before none_before) (picks_forms ps) (other_forms (0 + size_of before) after none_after) refl ends

    place : Between (front version) ahead (line.Order ∷ (map form_of (map picks_line ps) ++ line.End ∷ behind))
    place = between (front version) ahead (line.Order ∷ (map form_of (map picks_line ps) ++ line.End ∷ behind)) ends

    unpicks : flat_map line_picks (lines_at 0 (before ++ after)) ≡ []
    unpicks =
        let past = past_order place.at (map form_of (map picks_line ps)) behind (picks_forms ps) place.ends in
        let later : Ends (record place.at { order = true }) (behind ++ []) = subst (Ends (record place.at { order = true })) (sym (append-nil behind)) past.ends in
        ap (flat_map line_picks) (lines_both 0 before after)
        ∙ flat_map-append line_picks (lines_at 0 before) back
        ∙ ap (λ ns. ns ++ flat_map line_picks back) (unpicked (front version) 0 before _ none_before tt ends)
        ∙ unpicked (record place.at { order = true }) (0 + size_of before) after [] none_after (empty_open place.at past.may) later

    cut_is : IsCut version (before ++ after)
    cut_is = record {
      written = all_without (λ w. is_written w.written) lines.written;
      fit = all_without is_spelled fit;
      none_open = subst (IsOpenAfter (front version)) (sym cut_forms) opens;
      unpicks = unpicks;
      rising = subst (AreRising 1) (sym (lines_both 0 before after)) (rise_without 1 (lines_at 0 before) (order_block first ps last) back (subst (AreRising 1) (whole_lines version before first ps last after) rising));
    }

-- ---- any scene that can be written

abbrev before_of : {ws : List WrittenLine} → HasOrder ws → List WrittenLine
before_of o = o.before ++ (order_written o.first o.picked o.last ++ o.after)

without_order : (scene : Scene) (is : IsSpelled scene) → Every IsOtherLine is.ws → HasCut scene
without_order scene is others =
    let rising = subst (AreRising 1) (ap (λ (s : Scene). s.lines) is.is) is.rising in
    record {
      ws = is.ws;
      cut = is_cut scene.version is.ws is.lines is.fit rising others;
      known = is.lines.known;
      parts = inr (record { is = is.is; others = others });
      plans = ap (λ (s : Scene). record (plan_of s) { picks = [] }) is.is;
      accepted = λ h. subst (λ (s : Scene). first_refusal s ≡ None) is.is h;
    }

with_block : (scene : Scene) (is : IsSpelled scene) → HasOrder is.ws → HasCut scene
with_block scene is o =
    let lines = subst (AreLines scene.version) o.is is.lines in
    let whole : scene ≡ scene_of scene.version (before_of o) = is.is ∙ ap (scene_of scene.version) o.is in
    let rising = subst (AreRising 1) (ap (λ (s : Scene). s.lines) whole) is.rising in
    let fit = subst (λ ws. list_all is_spelled ws ≡ true) o.is is.fit in
    let is_scene : IsScene (scene_of scene.version (before_of o)) = record { ws = before_of o; is = refl; lines = lines } in
    let w = cut_scene scene.version o.before o.first o.picked o.last o.after in
    record {
      ws = o.before ++ o.after;
      cut = cut_is scene.version o.before o.first o.picked o.last o.after lines fit rising o.none_before o.none_after;
      known = is.lines.known;
      parts =
          inl (record { before = o.before; first = o.first; picked = o.picked; last = o.last; after = o.after; whole = whole; cut_is = refl; none_before = o.none_before; none_after = o.none_after });
      plans = ap (λ (s : Scene). record (plan_of s) { picks = [] }) whole ∙ plan_without (scene_of scene.version (before_of o)) (scene_of scene.version (o.before ++ o.after)) is_scene w;
      accepted = λ h. bare_accepted (scene_of scene.version (before_of o)) (scene_of scene.version (o.before ++ o.after)) is_scene w (subst (λ (s : Scene). first_refusal s ≡ None) whole h);
    }

pub has_cut : (scene : Scene) → IsSpelled scene → HasCut scene
has_cut scene is = elim (split (front scene.version) 0 is.ws is.lines.written is.lines.whole) [
  | inl others ↦ without_order scene is others
  | inr o ↦ with_block scene is o
]
