-- The plan of a scene is the same without line numbers, but for the numbers of its lines.
use Rattle.std.proofs.Common.{◌≡◌, List, ◌∷◌, ◌++◌, map, refl, sym, ap, ◌∙◌}
use Rattle.std.specs.List.{filter_map, flat_map}
use Rattle.std.proofs.lemmas.List.{map-append}
use Rattle.wdf_base.specs.declared.declared.Declared.TheVariants as declared
use Rattle.wdf_base.specs.declared.script.AgentInfo.{AgentInfo}
use Rattle.wdf_scene.specs.declared.scene.Scene.{Scene}
use Rattle.wdf_parse.specs.StandsFor.{without_number, without_numbers}
use Rattle.wdf_blocks.specs.declared.declaration.Declaration.{Declaration}
use Rattle.wdf_blocks.specs.declared.placed.Placed.{Placed}
use Rattle.wdf_blocks.specs.Declarations.{declarations}
use Rattle.wdf_blocks.specs.Placed.{placed}
use Rattle.wdf_plan.specs.Parts.{app_agent, class_on, device_agent, line_picks, object_on, pnp_post, register_on, target_agent, when_on}
use Rattle.wdf_plan.specs.Plans.{all_agents, all_objects, name_in, plan_of, plan_with}
use Rattle.wdf_plan.specs.Scripts.{nodes_on, script_on}
use Rattle.law_bare.specs.Lines.{bare_agent, bare_post, bare_script, bare_when, without_lines}
use Rattle.law_bare.proofs.Lists.{flat_same, gathered_alike, gathered_same, mapped_same}
use Rattle.law_canonical.proofs.Parts.{app_agent_alike, class_alike, device_agent_alike, object_on_alike, pnp_alike, register_alike, target_agent_alike, when_alike}
use Rattle.law_canonical.proofs.Scenes.{form_alike, names_alike, places_alike, undeclared, unplaced}
use Rattle.law_canonical.proofs.Scripts.{nodes_on_alike, script_alike}

module _ (s : Scene) (names : List Declaration) where
  abbrev bare : Scene
  bare = without_numbers s

  abbrev bare_names : List Declaration
  bare_names = map undeclared names

  objects_alike : all_objects bare bare_names ≡ all_objects s names
  unfolding all_objects
  objects_alike =
      ap (λ ps. declared.Driver ∷ filter_map (object_on bare bare_names) ps) (places_alike s)
      ∙ ap (λ os. declared.Driver ∷ os) (gathered_same unplaced (object_on bare bare_names) (object_on s names) (object_on_alike names s) (placed s))

  apps_alike : filter_map (λ p. app_agent bare bare_names p p.form) (placed bare) ≡ map bare_agent (filter_map (λ p. app_agent s names p p.form) (placed s))
  apps_alike =
      ap (filter_map (λ (p : Placed). app_agent bare bare_names p p.form)) (places_alike s)
      ∙ gathered_alike unplaced bare_agent (λ (p : Placed). app_agent bare bare_names p p.form) (λ (p : Placed). app_agent s names p p.form) (λ p. app_agent_alike names s p p.form) (placed s)

  devices_alike : filter_map (λ p. device_agent bare bare_names p p.form) (placed bare) ≡ map bare_agent (filter_map (λ p. device_agent s names p p.form) (placed s))
  devices_alike =
      ap (filter_map (λ (p : Placed). device_agent bare bare_names p p.form)) (places_alike s)
      ∙ gathered_alike unplaced bare_agent (λ (p : Placed). device_agent bare bare_names p p.form) (λ (p : Placed). device_agent s names p p.form) (λ p. device_agent_alike names s p p.form) (placed s)

  targets_alike : filter_map (λ p. target_agent bare_names p.form) (placed bare) ≡ map bare_agent (filter_map (λ p. target_agent names p.form) (placed s))
  targets_alike =
      ap (filter_map (λ (p : Placed). target_agent bare_names p.form)) (places_alike s)
      ∙ gathered_alike unplaced bare_agent (λ (p : Placed). target_agent bare_names p.form) (λ (p : Placed). target_agent names p.form) (λ p. target_agent_alike names p.form) (placed s)

  three_mapped : (xs ys zs : List AgentInfo) → map bare_agent xs ++ map bare_agent ys ++ map bare_agent zs ≡ map bare_agent (xs ++ ys ++ zs)
  three_mapped xs ys zs = rw (map-append bare_agent, map-append bare_agent) refl

  agents_alike : all_agents bare bare_names ≡ map bare_agent (all_agents s names)
  unfolding all_agents
  agents_alike =
      rw (apps_alike, devices_alike, targets_alike)
      (three_mapped (filter_map (λ p. app_agent s names p p.form) (placed s)) (filter_map (λ p. device_agent s names p p.form) (placed s)) (filter_map (λ p. target_agent names p.form) (placed s)))

  classes_alike : filter_map (λ p. class_on bare bare_names p p.form) (placed bare) ≡ filter_map (λ p. class_on s names p p.form) (placed s)
  classes_alike =
      ap (filter_map (λ (p : Placed). class_on bare bare_names p p.form)) (places_alike s)
      ∙ gathered_same unplaced (λ (p : Placed). class_on bare bare_names p p.form) (λ (p : Placed). class_on s names p p.form) (λ p. class_alike names s p p.form) (placed s)

  registers_alike : filter_map (λ p. register_on bare_names p p.form) (placed bare) ≡ filter_map (λ p. register_on names p p.form) (placed s)
  registers_alike =
      ap (filter_map (λ (p : Placed). register_on bare_names p p.form)) (places_alike s)
      ∙ gathered_same unplaced (λ (p : Placed). register_on bare_names p p.form) (λ (p : Placed). register_on names p p.form) (λ p. register_alike names p p.form) (placed s)

  whens_alike : filter_map (λ p. when_on bare_names p.number p.stand.device p.form) (placed bare) ≡ map bare_when (filter_map (λ p. when_on names p.number p.stand.device p.form) (placed s))
  whens_alike =
      ap (filter_map (λ (p : Placed). when_on bare_names p.number p.stand.device p.form)) (places_alike s)
      ∙ gathered_alike unplaced bare_when (λ (p : Placed). when_on bare_names p.number p.stand.device p.form) (λ (p : Placed). when_on names p.number p.stand.device p.form) (λ p. when_alike names p.number p.stand.device p.form) (placed s)

  posts_alike : filter_map (λ p. pnp_post bare_names p.number p.form) (placed bare) ≡ map bare_post (filter_map (λ p. pnp_post names p.number p.form) (placed s))
  posts_alike =
      ap (filter_map (λ (p : Placed). pnp_post bare_names p.number p.form)) (places_alike s)
      ∙ gathered_alike unplaced bare_post (λ (p : Placed). pnp_post bare_names p.number p.form) (λ (p : Placed). pnp_post names p.number p.form) (λ p. pnp_alike names p.number p.form) (placed s)

  exprs_alike : flat_map (nodes_on bare bare_names) (placed bare) ≡ flat_map (nodes_on s names) (placed s)
  exprs_alike = ap (flat_map (nodes_on bare bare_names)) (places_alike s) ∙ flat_same unplaced (nodes_on bare bare_names) (nodes_on s names) (nodes_on_alike names s) (placed s)

  scripts_alike : filter_map (λ p. script_on bare bare_names p p.form) (placed bare) ≡ map bare_script (filter_map (λ p. script_on s names p p.form) (placed s))
  scripts_alike =
      ap (filter_map (λ (p : Placed). script_on bare bare_names p p.form)) (places_alike s)
      ∙ gathered_alike unplaced bare_script (λ (p : Placed). script_on bare bare_names p p.form) (λ (p : Placed). script_on s names p p.form) (λ p. script_alike names s p p.form) (placed s)

  picks_alike : flat_map line_picks bare.lines ≡ flat_map line_picks s.lines
  picks_alike = flat_same without_number line_picks line_picks (λ l. refl) s.lines

  words_alike : map name_in bare_names ≡ map name_in names
  words_alike = mapped_same undeclared name_in name_in (λ d. refl) names

  with_alike : plan_with bare bare_names ≡ without_lines (plan_with s names)
  unfolding plan_with
  with_alike =
      rw (form_alike s 0, form_alike s 1, form_alike s 2, words_alike, objects_alike, classes_alike, registers_alike, whens_alike, posts_alike, agents_alike, exprs_alike, scripts_alike, picks_alike) refl

pub plan_alike : (s : Scene) → plan_of (without_numbers s) ≡ without_lines (plan_of s)
unfolding plan_of
plan_alike s = ap (plan_with (without_numbers s)) (names_alike s) ∙ with_alike s (declarations s)

pub plans_alike : (a b : Scene) → without_numbers a ≡ without_numbers b → without_lines (plan_of a) ≡ without_lines (plan_of b)
plans_alike a b e = sym (plan_alike a) ∙ ap plan_of e ∙ plan_alike b
