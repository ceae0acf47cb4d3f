-- The scene of the text of a story: lines without an `order` block, with new numbers, and with one of these picks after them.
use Rattle.std.proofs.Common.{◌≡◌, ◌⊎◌, inl, inr, ℕ, zero, suc, ◌+◌, ◌≤◌, ◌^◌, Bool, true, ◌&&◌, nat_lt, List, [], ◌∷◌, ◌++◌, map, flat_map, length, None, refl, sym, ap, ◌∙◌, subst, append-nil, arith}
use Rattle.std.specs.List.{list_all}
use Rattle.std.proofs.lemmas.List.{map-append}
use Rattle.std.proofs.lemmas.List.Concat.{flat_map-append}
use Rattle.std.proofs.lemmas.List.Folds.{list_all-append}
use Rattle.wdf_base.specs.declared.plan.Plan.{Plan}
use Rattle.wdf_model.specs.agents.Device.{device_actions}
use Rattle.wdf_scene.specs.declared.line.NumberedLine.{NumberedLine}
use Rattle.wdf_scene.specs.declared.line.SceneExpr.{SceneExpr}
use Rattle.wdf_scene.specs.declared.scene.Scene.{Scene}
use Rattle.wdf_scene.specs.Blocks.{front}
use Rattle.wdf_scene.specs.Written.{IsScene, WrittenLine, exprs_at, is_written, lines_at, picks_in, scene_of, written_size, AreLines}
use Rattle.wdf_tokens.specs.declared.token.Token.TheVariants as token
use Rattle.wdf_tokens.specs.WellFormed.{is_token}
use Rattle.wdf_parse.specs.Canonical.{canonical_text}
use Rattle.wdf_parse.specs.StandsFor.{StandsFor, without_number, without_numbers}
use Rattle.wdf_refusals.specs.First.{first_refusal}
use Rattle.wdf_refusals.proofs.Heads.{Ends, form_of}
use Rattle.wdf_plan.specs.Parts.{line_picks}
use Rattle.wdf_plan.specs.Plans.{plan_of}
use Rattle.law_bare.specs.Agents.{SameActions, bare_action}
use Rattle.law_bare.specs.Lines.{bare_plan}
use Rattle.law_canonical.proofs.Order.{IsRising, actions_alike}
use Rattle.law_canonical.proofs.Plans.{plans_alike}
use Rattle.law_canonical.proofs.Refusals.{refusals_alike}
use Rattle.law_order.specs.Order.{IsWithoutOrder, PicksLine}
use Rattle.law_order.proofs.Order.{plan_picks, plan_without, scene_accepted}
use Rattle.law_story.specs.Spelled.{AreRising, is_spelled}
use Rattle.law_story.proofs.Cuts.{IsCut}
use Rattle.law_story.proofs.Lines.{cut_scene, exprs_renumbered, forms_renumbered, lines_both, lines_renumbered, number_after, renumbered, renumbered_both, renumbered_rise, rise_from, size_of, written_renumbered}
use Rattle.law_story.proofs.Positions.{ends_bare, ends_ordered}
use Rattle.law_story.proofs.Split.{order_written}
use Rattle.law_story.proofs.Texts.{text_stands}

-- the lines of an `order` block of these picks; none where there are no picks
abbrev pub end_block : List ℕ → List WrittenLine
end_block [] = []
end_block (pick ∷ picks) = order_written 0 (record { number = 0; picks = pick ∷ picks } ∷ []) 0

-- the lines of the text of a story
abbrev pub story_lines : ℕ → List WrittenLine → List ℕ → List WrittenLine
story_lines version ws picks = renumbered version (ws ++ end_block picks)

-- each pick can be written
abbrev pub are_short : List ℕ → Bool
are_short picks = list_all (λ pick. nat_lt pick (2 ^ 64)) picks

-- ---- an `order` block can be written

end_written : (picks : List ℕ) → list_all (λ w. is_written w.written) (end_block picks) ≡ true
end_written [] = refl
end_written (pick ∷ picks) = refl

numbers_fit : (ns : List ℕ) → list_all is_token (map (λ n. token.Number n) ns) ≡ are_short ns
numbers_fit [] = refl
numbers_fit (n ∷ ns) = ap (λ b. nat_lt n (2 ^ 64) && b) (numbers_fit ns)

end_fit : (picks : List ℕ) → are_short picks ≡ true → list_all is_spelled (end_block picks) ≡ true
end_fit [] h = refl
end_fit (pick ∷ picks) h = let fit : list_all is_token (map (λ n. token.Number n) (pick ∷ picks)) ≡ true = numbers_fit (pick ∷ picks) ∙ h in rw fit refl

all_both : (f : WrittenLine → Bool) (xs ys : List WrittenLine) → list_all f xs ≡ true → list_all f ys ≡ true → list_all f (xs ++ ys) ≡ true
all_both f xs ys h e = list_all-append f xs ys ∙ ap (λ b. b && list_all f ys) h ∙ e

end_picks : (base : ℕ) (picks : List ℕ) → flat_map line_picks (lines_at base (end_block picks)) ≡ picks
end_picks base [] = refl
end_picks base (pick ∷ picks) = append-nil (pick ∷ picks)

picks_renumbered : (n base : ℕ) (ws : List WrittenLine) → flat_map line_picks (lines_at base (renumbered n ws)) ≡ flat_map line_picks (lines_at base ws)
picks_renumbered n base [] = refl
picks_renumbered n base (w ∷ ws) = ap (λ ns. picks_in w.written ++ ns) (picks_renumbered (suc n) (base + written_size w.written) ws)

to_rising : (n : ℕ) (ls : List NumberedLine) → AreRising n ls → IsRising n ls
to_rising n [] h = tt
to_rising n (l ∷ ls) h = (h.0, to_rising (suc l.number) ls h.1)

-- ---- actions of devices don't depend on picks

actions_unpicked : (plan : Plan) (d k : ℕ) → device_actions (record plan { picks = [] }) d k ≡ device_actions plan d k
actions_unpicked plan d zero = refl
actions_unpicked plan d (suc k) = refl

pub same_actions : (one two : Plan) → record one { picks = [] } ≡ record two { picks = [] } → SameActions one two
same_actions one two e d k =
    ap (map bare_action) (sym (actions_unpicked one d k)) ∙ ap (λ (p : Plan). map bare_action (device_actions p d k)) e ∙ ap (map bare_action) (actions_unpicked two d k)

pub actions_both : (one two three : Plan) → SameActions one two → SameActions two three → SameActions one three
actions_both one two three a b d k = a d k ∙ b d k

-- ---- the scene of these lines

module _ (version : ℕ) (known : (version ≡ 1) ⊎ (version ≡ 2)) (ws : List WrittenLine) (cut : IsCut version ws) where
  -- with new numbers alone
  abbrev plain : Scene
  plain = scene_of version (renumbered version ws)

  abbrev old : Scene
  old = scene_of version ws

  plain_same : without_numbers old ≡ without_numbers plain
  plain_same =
      ap (λ (ls : List NumberedLine). record { version = version; lines = ls; exprs = exprs_at 0 ws }) (sym (lines_renumbered version 0 ws))
      ∙ ap (λ (es : List SceneExpr). record { version = version; lines = map without_number (lines_at 0 (renumbered version ws)); exprs = es }) (sym (exprs_renumbered version 0 ws))

  at_least_one : 1 ≤ version
  at_least_one = elim known [
    | inl e ↦ omega (arith, e)
    | inr e ↦ omega (arith, e)
  ]

  plain_actions : SameActions (plan_of old) (plan_of plain)
  plain_actions =
      actions_alike old plain plain_same (to_rising 1 (lines_at 0 ws) cut.rising)
      (to_rising 1 (lines_at 0 (renumbered version ws)) (rise_from version 1 (lines_at 0 (renumbered version ws)) at_least_one (renumbered_rise version 0 ws)))

  -- with a block of these picks too
  abbrev pub again : List ℕ → Scene
  again picks = scene_of version (story_lines version ws picks)

  module _ (picks : List ℕ) (short : are_short picks ≡ true) where
    abbrev all_lines : List WrittenLine
    all_lines = ws ++ end_block picks

    written : list_all (λ w. is_written w.written) all_lines ≡ true
    written = all_both (λ w. is_written w.written) ws (end_block picks) cut.written (end_written picks)

    fit : list_all is_spelled all_lines ≡ true
    fit = all_both is_spelled ws (end_block picks) cut.fit (end_fit picks short)

    ends_by : (ns : List ℕ) → Ends (front version) (map form_of (lines_at 0 ws) ++ map form_of (lines_at (0 + size_of ws) (end_block ns)))
    ends_by [] = subst (Ends (front version)) (sym (append-nil (map form_of (lines_at 0 ws)))) (ends_bare (front version) (map form_of (lines_at 0 ws)) cut.none_open)
    ends_by (n ∷ ns) = ends_ordered (front version) (map form_of (lines_at 0 ws)) cut.none_open

    forms_are : map form_of (lines_at 0 (story_lines version ws picks)) ≡ map form_of (lines_at 0 ws) ++ map form_of (lines_at (0 + size_of ws) (end_block picks))
    forms_are = forms_renumbered version 0 all_lines ∙ ap (map form_of) (lines_both 0 ws (end_block picks)) ∙ map-append form_of (lines_at 0 ws) (lines_at (0 + size_of ws) (end_block picks))

    are_lines : AreLines version (story_lines version ws picks)
    are_lines = record {
      known = known;
      written = written_renumbered version all_lines ∙ written;
      whole = subst (Ends (front version)) (sym forms_are) (ends_by picks);
    }

    -- it stands for their text
    pub again_stands : StandsFor (canonical_text version (story_lines version ws picks)) (again picks)
    again_stands = record { first = 1; ws = story_lines version ws picks; tokens = text_stands version known all_lines written fit; is = refl; lines = are_lines }

    again_scene : IsScene (again picks)
    again_scene = record { ws = story_lines version ws picks; is = refl; lines = are_lines }

    -- its plan has these picks
    pub again_picks : (plan_of (again picks)).picks ≡ picks
    again_picks =
        plan_picks (again picks) ∙ picks_renumbered version 0 all_lines
        ∙ ap (flat_map line_picks) (lines_both 0 ws (end_block picks))
        ∙ flat_map-append line_picks (lines_at 0 ws) (lines_at (0 + size_of ws) (end_block picks))
        ∙ ap (λ ns. ns ++ flat_map line_picks (lines_at (0 + size_of ws) (end_block picks))) cut.unpicks
        ∙ end_picks (0 + size_of ws) picks

  -- what is the same of both
  pub record IsLike (picks : List ℕ) (again : Scene) : Type 0 where
    pub accepted : first_refusal old ≡ None → first_refusal again ≡ None
    pub plans : bare_plan (plan_of old) ≡ bare_plan (plan_of again)
    pub actions : SameActions (plan_of old) (plan_of again)

  plain_like : IsLike [] plain
  plain_like = record {
    accepted = refusals_alike old plain plain_same;
    plans = ap (λ (p : Plan). record p { picks = [] }) (plans_alike old plain plain_same);
    actions = plain_actions;
  }

  ordered_like : (pick : ℕ) (picks : List ℕ) → are_short (pick ∷ picks) ≡ true → length (pick ∷ picks) ≤ 200000 → IsLike (pick ∷ picks) (again (pick ∷ picks))
  ordered_like pick picks short few =
      let n = number_after version ws in
      let pl : PicksLine = record { number = suc n; picks = pick ∷ picks } in
      let made = renumbered version ws ++ (order_written n (pl ∷ []) (suc (suc n)) ++ []) in
      let is : again (pick ∷ picks) ≡ scene_of version made = ap (scene_of version) (renumbered_both version ws (end_block (pick ∷ picks))) in
      let scene_is : IsScene (scene_of version made) = subst IsScene is (again_scene (pick ∷ picks) short) in
      let w : IsWithoutOrder (scene_of version made) plain =
      subst (λ ls. IsWithoutOrder (scene_of version made) (scene_of version ls)) (append-nil (renumbered version ws)) (cut_scene version (renumbered version ws) n (pl ∷ []) (suc (suc n)) []) in
      let few_there : length (plan_of (scene_of version made)).picks ≤ 200000 = subst (λ (ns : List ℕ). length ns ≤ 200000) (sym (again_picks (pick ∷ picks) short) ∙ ap (λ (s : Scene). (plan_of s).picks) is) few in
      let same : record (plan_of (scene_of version made)) { picks = [] } ≡ record (plan_of plain) { picks = [] } = plan_without (scene_of version made) plain scene_is w in
      subst (IsLike (pick ∷ picks)) (sym is)
      (record {
        accepted = λ h. scene_accepted (scene_of version made) plain scene_is w (plain_like.accepted h) few_there;
        plans = plain_like.plans ∙ sym (ap bare_plan same);
        actions = actions_both (plan_of old) (plan_of plain) (plan_of (scene_of version made)) plain_actions (same_actions (plan_of plain) (plan_of (scene_of version made)) (sym same));
      })

  pub like : (picks : List ℕ) → are_short picks ≡ true → length picks ≤ 200000 → IsLike picks (again picks)
  like [] short few = subst (λ ls. IsLike [] (scene_of version (renumbered version ls))) (sym (append-nil ws)) plain_like
  like (pick ∷ picks) short few = ordered_like pick picks short few
