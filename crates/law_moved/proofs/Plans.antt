-- The plan of a moved scene is the scene's but for the ticks of posts.
use Rattle.std.proofs.Common.{◌≡◌, ℕ, List, ◌∷◌, ◌++◌, map, flat_map, refl, sym, ap, ◌∙◌}
use Rattle.std.specs.List.{filter_map}
use Rattle.std.proofs.lemmas.List.{map-append}
use Rattle.wdf_base.specs.declared.declared.Declared.TheVariants as declared
use Rattle.wdf_base.specs.declared.script.AgentInfo.{AgentInfo}
use Rattle.wdf_scene.specs.declared.scene.Scene.{Scene}
use Rattle.wdf_blocks.specs.declared.declaration.Declaration.{Declaration}
use Rattle.wdf_blocks.specs.declared.placed.Placed.{Placed}
use Rattle.wdf_blocks.specs.Blocks.{form_at}
use Rattle.wdf_blocks.specs.Declarations.{declarations}
use Rattle.wdf_blocks.specs.Placed.{placed}
use Rattle.wdf_plan.specs.Parts.{app_agent, class_on, device_agent, line_picks, object_on, pnp_post, register_on, target_agent, when_on}
use Rattle.wdf_plan.specs.Plans.{all_agents, all_objects, header_of, plan_of, plan_with}
use Rattle.wdf_plan.specs.Scripts.{nodes_on, script_on}
use Rattle.wdf_jitter.specs.Moved.{moved_scene}
use Rattle.law_bare.proofs.Lists.{flat_same, gathered_same}
use Rattle.law_moved.specs.Ticks.{early_agent, early_post, without_ticks}
use Rattle.law_moved.proofs.Untimed.{scene_alike, untimed_line, untimed_scene}
use Rattle.law_moved.proofs.Headers.{header_of_any}
use Rattle.law_moved.proofs.Parts.{app_alike, class_alike, device_agent_alike, gathered_early, object_untimed, pnp_alike, register_alike, target_alike, when_alike}
use Rattle.law_moved.proofs.Scenes.{form_alike, names_alike, places_alike, unplaced}
use Rattle.law_moved.proofs.Scripts.{nodes_alike, script_alike}

module _ (s : Scene) (names : List Declaration) where
  abbrev bare : Scene
  bare = untimed_scene s

  header_here : (k : ℕ) → header_of (form_at bare k) ≡ header_of (form_at s k)
  header_here k = ap header_of (form_alike s k) ∙ header_of_any (form_at s k)

  objects_alike : all_objects bare names ≡ all_objects s names
  unfolding all_objects
  objects_alike =
      ap (λ ps. declared.Driver ∷ filter_map (object_on bare names) ps) (places_alike s)
      ∙ ap (λ os. declared.Driver ∷ os) (gathered_same unplaced (object_on bare names) (object_on s names) (λ p. object_untimed names s p p.at p.form) (placed s))

  classes_alike : filter_map (λ p. class_on bare names p p.form) (placed bare) ≡ filter_map (λ p. class_on s names p p.form) (placed s)
  classes_alike =
      ap (filter_map (λ (p : Placed). class_on bare names p p.form)) (places_alike s)
      ∙ gathered_same unplaced (λ (p : Placed). class_on bare names p p.form) (λ (p : Placed). class_on s names p p.form) (λ p. class_alike names s p p.form) (placed s)

  registers_alike : filter_map (λ p. register_on names p p.form) (placed bare) ≡ filter_map (λ p. register_on names p p.form) (placed s)
  registers_alike =
      ap (filter_map (λ (p : Placed). register_on names p p.form)) (places_alike s)
      ∙ gathered_same unplaced (λ (p : Placed). register_on names p p.form) (λ (p : Placed). register_on names p p.form) (register_alike names) (placed s)

  whens_alike : filter_map (λ p. when_on names p.number p.stand.device p.form) (placed bare) ≡ filter_map (λ p. when_on names p.number p.stand.device p.form) (placed s)
  whens_alike =
      ap (filter_map (λ (p : Placed). when_on names p.number p.stand.device p.form)) (places_alike s)
      ∙ gathered_same unplaced (λ (p : Placed). when_on names p.number p.stand.device p.form) (λ (p : Placed). when_on names p.number p.stand.device p.form) (λ p. when_alike names p.number p.stand.device p.form) (placed s)

  posts_alike : map early_post (filter_map (λ p. pnp_post names p.number p.form) (placed bare)) ≡ map early_post (filter_map (λ p. pnp_post names p.number p.form) (placed s))
  posts_alike =
      ap (λ ps. map early_post (filter_map (λ (p : Placed). pnp_post names p.number p.form) ps)) (places_alike s)
      ∙ gathered_early unplaced early_post (λ (p : Placed). pnp_post names p.number p.form) (λ (p : Placed). pnp_post names p.number p.form) (λ p. pnp_alike names p.number p.form) (placed s)

  apps_alike : map early_agent (filter_map (λ p. app_agent bare names p p.form) (placed bare)) ≡ map early_agent (filter_map (λ p. app_agent s names p p.form) (placed s))
  apps_alike =
      ap (λ ps. map early_agent (filter_map (λ (p : Placed). app_agent bare names p p.form) ps)) (places_alike s)
      ∙ gathered_early unplaced early_agent (λ (p : Placed). app_agent bare names p p.form) (λ (p : Placed). app_agent s names p p.form) (λ p. app_alike names s p p.form) (placed s)

  devices_alike : map early_agent (filter_map (λ p. device_agent bare names p p.form) (placed bare)) ≡ map early_agent (filter_map (λ p. device_agent s names p p.form) (placed s))
  devices_alike =
      ap (λ ps. map early_agent (filter_map (λ (p : Placed). device_agent bare names p p.form) ps)) (places_alike s)
      ∙ gathered_early unplaced early_agent (λ (p : Placed). device_agent bare names p p.form) (λ (p : Placed). device_agent s names p p.form) (λ p. device_agent_alike names s p p.form) (placed s)

  targets_alike : filter_map (λ p. target_agent names p.form) (placed bare) ≡ filter_map (λ p. target_agent names p.form) (placed s)
  targets_alike =
      ap (filter_map (λ (p : Placed). target_agent names p.form)) (places_alike s)
      ∙ gathered_same unplaced (λ (p : Placed). target_agent names p.form) (λ (p : Placed). target_agent names p.form) (λ p. target_alike names p.form) (placed s)

  three_mapped : (xs ys zs : List AgentInfo) → map early_agent (xs ++ ys ++ zs) ≡ map early_agent xs ++ map early_agent ys ++ map early_agent zs
  three_mapped xs ys zs = rw (map-append early_agent, map-append early_agent) refl

  agents_alike : map early_agent (all_agents bare names) ≡ map early_agent (all_agents s names)
  unfolding all_agents
  agents_alike =
      let xs = filter_map (λ (p : Placed). app_agent s names p p.form) (placed s) in
      let ys = filter_map (λ (p : Placed). device_agent s names p p.form) (placed s) in
      let zs = filter_map (λ (p : Placed). target_agent names p.form) (placed s) in
      three_mapped (filter_map (λ (p : Placed). app_agent bare names p p.form) (placed bare)) (filter_map (λ (p : Placed). device_agent bare names p p.form) (placed bare)) (filter_map (λ (p : Placed). target_agent names p.form) (placed bare))
      ∙ rw (apps_alike, devices_alike, targets_alike) (sym (three_mapped xs ys zs))

  exprs_alike : flat_map (nodes_on bare names) (placed bare) ≡ flat_map (nodes_on s names) (placed s)
  exprs_alike = ap (flat_map (nodes_on bare names)) (places_alike s) ∙ flat_same unplaced (nodes_on bare names) (nodes_on s names) (nodes_alike names s) (placed s)

  scripts_alike : filter_map (λ p. script_on bare names p p.form) (placed bare) ≡ filter_map (λ p. script_on s names p p.form) (placed s)
  scripts_alike =
      ap (filter_map (λ (p : Placed). script_on bare names p p.form)) (places_alike s)
      ∙ gathered_same unplaced (λ (p : Placed). script_on bare names p p.form) (λ (p : Placed). script_on s names p p.form) (λ p. script_alike names s p p.form) (placed s)

  picks_alike : flat_map line_picks bare.lines ≡ flat_map line_picks s.lines
  picks_alike = flat_same untimed_line line_picks line_picks (λ l. refl) s.lines

  with_alike : without_ticks (plan_with bare names) ≡ without_ticks (plan_with s names)
  unfolding plan_with
  with_alike =
      rw (header_here 0, header_here 1, header_here 2, objects_alike, classes_alike, registers_alike, whens_alike, posts_alike, agents_alike, exprs_alike, scripts_alike, picks_alike) refl

plan_alike : (s : Scene) → without_ticks (plan_of (untimed_scene s)) ≡ without_ticks (plan_of s)
unfolding plan_of
plan_alike s = ap (λ ds. without_ticks (plan_with (untimed_scene s) ds)) (names_alike s) ∙ with_alike s (declarations s)

pub moved_plan : (most : ℕ) (words : List ℕ) (scene : Scene) → without_ticks (plan_of (moved_scene most words scene)) ≡ without_ticks (plan_of scene)
moved_plan most words scene = sym (plan_alike (moved_scene most words scene)) ∙ ap (λ s. without_ticks (plan_of s)) (scene_alike most words scene) ∙ plan_alike scene
