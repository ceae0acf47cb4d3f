-- A scene with an `order` block is refused as the scene without it, but for the limit of picks, and its plan is the same but for picks.
use Rattle.std.proofs.Common.{◌≡◌, ℕ, ◌+◌, true, false, nat_lt, List, [], ◌∷◌, ◌++◌, map, flat_map, Option, Some, None, option_map, refl, sym, ap, ◌∙◌, subst, arith}
use Rattle.std.specs.List.{cons_option, filter_map}
use Rattle.std.proofs.lemmas.Bool.Decides.{nat_tests}
use Rattle.std.proofs.lemmas.List.{map-append}
use Rattle.std.proofs.lemmas.List.Elements.{filter_map-append}
use Rattle.wdf_base.specs.declared.declared.Declared.TheVariants as declared
use Rattle.wdf_scene.specs.declared.line.SceneLine.{SceneLine}
use Rattle.wdf_scene.specs.declared.line.SceneLine.TheVariants as line
use Rattle.wdf_scene.specs.declared.scene.Scene.{Scene}
use Rattle.wdf_blocks.specs.declared.declaration.Declaration.{Declaration}
use Rattle.wdf_blocks.specs.declared.placed.Placed.{Placed}
use Rattle.wdf_blocks.specs.Declarations.{declarations, declared_by, declared_on}
use Rattle.wdf_blocks.specs.Placed.{placed}
use Rattle.wdf_blocks.specs.Variables.{variables_at}
use Rattle.wdf_refusals.specs.First.{first_refusal, refused, refused_at}
use Rattle.wdf_refusals.specs.Limits.{over_picks}
use Rattle.wdf_refusals.specs.Numbered.{Every}
use Rattle.wdf_refusals.proofs.Every.{every_append, none_each}
use Rattle.wdf_plan.specs.Parts.{app_agent, class_on, device_agent, line_picks, object_on, pnp_post, register_on, target_agent, when_on}
use Rattle.wdf_plan.specs.Plans.{all_agents, all_objects, name_in, plan_of, plan_with}
use Rattle.wdf_plan.specs.Scripts.{nodes_on, script_on}
use Rattle.law_bare.proofs.Lists.{mapped_same}
use Rattle.law_order.proofs.Inserted.{IsInserted, flat, gathered, none_gathered}
use Rattle.law_order.proofs.Lists.{every_back, every_front, none_some}
use Rattle.law_order.proofs.Moves.{declares_moved, moved_declared, moved_names, moved_placed, variables_alike}
use Rattle.law_order.proofs.Parts.{app_agent_alike, class_alike, device_agent_alike, no_app, no_class, no_device, no_object, no_pnp, no_register, no_target, no_when, object_on_alike, pnp_alike, register_alike, target_agent_alike, when_alike}
use Rattle.law_order.proofs.Refusals.{is_of_order, order_refused, refused_after, refused_before}
use Rattle.law_order.proofs.Scripts.{no_nodes_on, no_script, nodes_on_alike, script_alike}

-- ---- what is declared

declared_nothing : (p : Placed) (f : SceneLine) → is_of_order f ≡ true → declared_by p f ≡ None
unfolding declared_by
declared_nothing p line.Order h = refl
declared_nothing p line.Picks h = refl
declared_nothing p line.End h = refl
declared_nothing p _ h = absurd (let z : ⊥ = cc in z)

cons_map : (f : Declaration → Declaration) (o : Option Declaration) (ds : List Declaration) → cons_option (option_map f o) (map f ds) ≡ map f (cons_option o ds)
cons_map f None ds = refl
cons_map f (Some d) ds = refl

module _ (to : ℕ → ℕ) where
  names_moved : (n : ℕ) (ps : List Placed) → filter_map declared_on (map (moved_placed to n) ps) ≡ map (moved_declared to) (filter_map declared_on ps)
  names_moved n [] = refl
  names_moved n (p ∷ ps) =
      ap (λ o. cons_option o (filter_map declared_on (map (moved_placed to n) ps))) (declares_moved to n p)
      ∙ ap (cons_option (option_map (moved_declared to) (declared_on p))) (names_moved n ps)
      ∙ cons_map (moved_declared to) (declared_on p) (filter_map declared_on ps)

  module _ (one two : Scene) (i : IsInserted to one two) where
    names_alike : declarations two ≡ map (moved_declared to) (declarations one)
    unfolding declarations
    names_alike =
        let u = moved_placed to 0 in
        let v = moved_placed to i.more in
        ap (filter_map declared_on) i.two_is
        ∙ filter_map-append declared_on (map u i.before) (i.block ++ map v i.after)
        ∙ ap (λ ds. filter_map declared_on (map u i.before) ++ ds)
        (filter_map-append declared_on i.block (map v i.after)
        ∙ ap (λ ds. ds ++ filter_map declared_on (map v i.after)) (none_gathered declared_on (λ p h. declared_nothing p p.form h) i.block i.of_order)
        ∙ names_moved i.more i.after)
        ∙ ap (λ ds. ds ++ map (moved_declared to) (filter_map declared_on i.after)) (names_moved 0 i.before)
        ∙ sym (map-append (moved_declared to) (filter_map declared_on i.before) (filter_map declared_on i.after))
        ∙ ap (map (moved_declared to)) (sym (filter_map-append declared_on i.before i.after) ∙ ap (filter_map declared_on) (sym i.one_is))

    -- ---- refusals

    abbrev names : List Declaration
    names = declarations one

    at_before : (n : ℕ) (p : Placed) → (over_picks (moved_placed to n p) ≡ false → over_picks p ≡ false) → refused_at two (moved_placed to n p) ≡ None → refused_at one p ≡ None
    unfolding refused_at
    at_before n p h e =
        refused_before to one two i.moved names (variables_at one p) n p h
        (ap (λ vs. refused two (moved_names to names) vs (moved_placed to n p)) (sym (variables_alike to one two i.moved n p))
        ∙ ap (λ ds. refused two ds (variables_at two (moved_placed to n p)) (moved_placed to n p)) (sym names_alike) ∙ e)

    at_after : (n : ℕ) (p : Placed) → over_picks (moved_placed to n p) ≡ false → refused_at one p ≡ None → refused_at two (moved_placed to n p) ≡ None
    unfolding refused_at
    at_after n p h e =
        ap (λ ds. refused two ds (variables_at two (moved_placed to n p)) (moved_placed to n p)) names_alike
        ∙ ap (λ vs. refused two (moved_names to names) vs (moved_placed to n p)) (variables_alike to one two i.moved n p)
        ∙ refused_after to one two i.moved names (variables_at one p) n p h e

    fewer : (n : ℕ) (p : Placed) → over_picks (moved_placed to n p) ≡ false → over_picks p ≡ false
    fewer n p h = less p.counts.picks p.picks n h
      where
        less : (a b n : ℕ) → nat_lt 200000 (a + n + b) ≡ false → nat_lt 200000 (a + b) ≡ false
        less a b n h = grind (arith, nat_tests, h)

    none_before : (n : ℕ) (ps : List Placed) → Every (λ p. refused_at two p ≡ None) (map (moved_placed to n) ps) → Every (λ p. refused_at one p ≡ None) ps
    none_before n [] h = tt
    none_before n (p ∷ ps) h = (at_before n p (fewer n p) h.0, none_before n ps h.1)

    -- the scene without the block isn't refused where the scene isn't
    pub accepted_before : first_refusal two ≡ None → first_refusal one ≡ None
    unfolding first_refusal
    accepted_before e =
        let u = moved_placed to 0 in
        let v = moved_placed to i.more in
        let all : Every (λ p. refused_at two p ≡ None) (map u i.before ++ (i.block ++ map v i.after)) = subst (Every (λ p. refused_at two p ≡ None)) i.two_is (none_each (refused_at two) (placed two) e) in
        let front = every_front (λ p. refused_at two p ≡ None) (map u i.before) (i.block ++ map v i.after) all in
        let back = every_back (λ p. refused_at two p ≡ None) i.block (map v i.after) (every_back (λ p. refused_at two p ≡ None) (map u i.before) (i.block ++ map v i.after) all) in
        none_some (refused_at one) (placed one)
        (subst (Every (λ p. refused_at one p ≡ None)) (sym i.one_is) (every_append (λ p. refused_at one p ≡ None) i.before i.after (none_before 0 i.before front) (none_before i.more i.after back)))

    none_after : (n : ℕ) (ps : List Placed) → Every (λ p. refused_at one p ≡ None) ps → Every (λ p. over_picks p ≡ false) (map (moved_placed to n) ps) → Every (λ p. refused_at two p ≡ None) (map (moved_placed to n) ps)
    none_after n [] h few = tt
    none_after n (p ∷ ps) h few = (at_after n p few.0 h.0, none_after n ps h.1 few.1)

    block_refused : (p : Placed) → is_of_order p.form ≡ true → over_picks p ≡ false → refused_at two p ≡ None
    unfolding refused_at
    block_refused p h few = order_refused two (declarations two) (variables_at two p) p h few

    none_in_block : (ps : List Placed) → Every (λ p. is_of_order p.form ≡ true) ps → Every (λ p. over_picks p ≡ false) ps → Every (λ p. refused_at two p ≡ None) ps
    none_in_block [] h few = tt
    none_in_block (p ∷ ps) h few = (block_refused p h.0 few.0, none_in_block ps h.1 few.1)

    -- and the other way round, where its picks aren't too many
    pub accepted_after : first_refusal one ≡ None → Every (λ p. over_picks p ≡ false) (placed two) → first_refusal two ≡ None
    unfolding first_refusal
    accepted_after e few =
        let u = moved_placed to 0 in
        let v = moved_placed to i.more in
        let P : Placed → Type 0 = λ p. over_picks p ≡ false in
        let Q : Placed → Type 0 = λ p. refused_at one p ≡ None in
        let R : Placed → Type 0 = λ p. refused_at two p ≡ None in
        let fit : Every P (map u i.before ++ (i.block ++ map v i.after)) = subst (Every P) i.two_is few in
        let fits = every_back P (map u i.before) (i.block ++ map v i.after) fit in
        let all : Every Q (i.before ++ i.after) = subst (Every Q) i.one_is (none_each (refused_at one) (placed one) e) in
        none_some (refused_at two) (placed two)
        (subst (Every R) (sym i.two_is)
        (every_append R (map u i.before) (i.block ++ map v i.after) (none_after 0 i.before (every_front Q i.before i.after all) (every_front P (map u i.before) (i.block ++ map v i.after) fit))
        (every_append R i.block (map v i.after) (none_in_block i.block i.of_order (every_front P i.block (map v i.after) fits)) (none_after i.more i.after (every_back Q i.before i.after all) (every_back P i.block (map v i.after) fits)))))

    -- ---- the plan

    objects_alike : all_objects two (moved_names to names) ≡ all_objects one names
    unfolding all_objects
    objects_alike =
        ap (λ os. declared.Driver ∷ os) (gathered to one two i (object_on two (moved_names to names)) (object_on one names) (λ n p there. object_on_alike to one two i names n p) (λ p h. no_object (moved_names to names) two p p.at p.form h))

    apps_alike : filter_map (λ p. app_agent two (moved_names to names) p p.form) (placed two) ≡ filter_map (λ p. app_agent one names p p.form) (placed one)
    apps_alike = gathered to one two i (λ p. app_agent two (moved_names to names) p p.form) (λ p. app_agent one names p p.form) (λ n p there. app_agent_alike to one two i names n p p.form) (λ p h. no_app (moved_names to names) two p p.form h)

    devices_alike : filter_map (λ p. device_agent two (moved_names to names) p p.form) (placed two) ≡ filter_map (λ p. device_agent one names p p.form) (placed one)
    devices_alike = gathered to one two i (λ p. device_agent two (moved_names to names) p p.form) (λ p. device_agent one names p p.form) (λ n p there. device_agent_alike to one two i names n p p.form) (λ p h. no_device (moved_names to names) two p p.form h)

    targets_alike : filter_map (λ p. target_agent (moved_names to names) p.form) (placed two) ≡ filter_map (λ p. target_agent names p.form) (placed one)
    targets_alike = gathered to one two i (λ p. target_agent (moved_names to names) p.form) (λ p. target_agent names p.form) (λ n p there. target_agent_alike to i.moved.same names p.form) (λ p h. no_target (moved_names to names) p.form h)

    agents_alike : all_agents two (moved_names to names) ≡ all_agents one names
    unfolding all_agents
    agents_alike = rw (apps_alike, devices_alike, targets_alike) refl

    classes_alike : filter_map (λ p. class_on two (moved_names to names) p p.form) (placed two) ≡ filter_map (λ p. class_on one names p p.form) (placed one)
    classes_alike = gathered to one two i (λ p. class_on two (moved_names to names) p p.form) (λ p. class_on one names p p.form) (λ n p there. class_alike to one two i names n p p.form) (λ p h. no_class (moved_names to names) two p p.form h)

    registers_alike : filter_map (λ p. register_on (moved_names to names) p p.form) (placed two) ≡ filter_map (λ p. register_on names p p.form) (placed one)
    registers_alike = gathered to one two i (λ p. register_on (moved_names to names) p p.form) (λ p. register_on names p p.form) (λ n p there. register_alike to i.moved.same names n p p.form) (λ p h. no_register (moved_names to names) p p.form h)

    whens_alike : filter_map (λ p. when_on (moved_names to names) p.number p.stand.device p.form) (placed two) ≡ filter_map (λ p. when_on names p.number p.stand.device p.form) (placed one)
    whens_alike =
        gathered to one two i (λ p. when_on (moved_names to names) p.number p.stand.device p.form) (λ p. when_on names p.number p.stand.device p.form) (λ n p there. when_alike to i.moved.same names p.number p.stand.device p.form)
        (λ p h. no_when (moved_names to names) p.number p.stand.device p.form h)

    posts_alike : filter_map (λ p. pnp_post (moved_names to names) p.number p.form) (placed two) ≡ filter_map (λ p. pnp_post names p.number p.form) (placed one)
    posts_alike = gathered to one two i (λ p. pnp_post (moved_names to names) p.number p.form) (λ p. pnp_post names p.number p.form) (λ n p there. pnp_alike to i.moved.same names p.number p.form) (λ p h. no_pnp (moved_names to names) p.number p.form h)

    exprs_alike : flat_map (nodes_on two (moved_names to names)) (placed two) ≡ flat_map (nodes_on one names) (placed one)
    exprs_alike = flat to one two i (nodes_on two (moved_names to names)) (nodes_on one names) (λ n p. nodes_on_alike to one two i names n p) (λ p h. no_nodes_on two (moved_names to names) p h)

    scripts_alike : filter_map (λ p. script_on two (moved_names to names) p p.form) (placed two) ≡ filter_map (λ p. script_on one names p p.form) (placed one)
    scripts_alike = gathered to one two i (λ p. script_on two (moved_names to names) p p.form) (λ p. script_on one names p p.form) (λ n p there. script_alike to one two i names n p p.form there) (λ p h. no_script two (moved_names to names) p p.form h)

    words_alike : map name_in (moved_names to names) ≡ map name_in names
    words_alike = mapped_same (moved_declared to) name_in name_in (λ d. refl) names

    with_alike : plan_with two (moved_names to names) ≡ record (plan_with one names) { picks = flat_map line_picks two.lines }
    unfolding plan_with
    with_alike =
        rw (i.first, i.second, i.third, words_alike, objects_alike, classes_alike, registers_alike, whens_alike, posts_alike, agents_alike, exprs_alike, scripts_alike) refl

    -- the plans are the same but for picks
    pub plan_alike : plan_of two ≡ record (plan_of one) { picks = flat_map line_picks two.lines }
    unfolding plan_of
    plan_alike = ap (plan_with two) names_alike ∙ with_alike
