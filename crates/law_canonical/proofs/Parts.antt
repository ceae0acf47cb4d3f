-- What the lists of a plan have of each line is the same without line numbers, but for the number of the line.
use Rattle.std.proofs.Common.{◌≡◌, ℕ, Bool, true, false, cond, List, map, Option, Some, None, option_map, refl, ap, ◌∙◌}
use Rattle.std.specs.Prelude.{option_and_then}
use Rattle.std.specs.Option.{unwrap_or}
use Rattle.std.specs.List.{filter_map}
use Rattle.wdf_base.specs.declared.declared.Declared.TheVariants as declared
use Rattle.wdf_base.specs.declared.declared.DispatchKind.{DispatchKind}
use Rattle.wdf_base.specs.declared.declared.PostLine.{PostLine}
use Rattle.wdf_base.specs.declared.object.RequestForm.TheVariants as form
use Rattle.wdf_base.specs.declared.value.Status.{Status}
use Rattle.wdf_scene.specs.declared.line.InterruptLevel.{InterruptLevel}
use Rattle.wdf_scene.specs.declared.line.SceneLine.{SceneLine}
use Rattle.wdf_scene.specs.declared.line.SceneLine.TheVariants as line
use Rattle.wdf_scene.specs.declared.scene.Scene.{Scene}
use Rattle.wdf_parse.specs.StandsFor.{without_numbers}
use Rattle.wdf_blocks.specs.declared.attribute.Attribute.TheVariants as attribute
use Rattle.wdf_blocks.specs.declared.declaration.Declaration.{Declaration}
use Rattle.wdf_blocks.specs.declared.declaration.Wanted.TheVariants as wanted
use Rattle.wdf_blocks.specs.declared.placed.Placed.{Placed}
use Rattle.wdf_blocks.specs.Blocks.{form_at, given, ticks_in}
use Rattle.wdf_blocks.specs.Placed.{placed}
use Rattle.wdf_refusals.specs.Numbers.{name_number}
use Rattle.wdf_plan.specs.Parts.{agent, app_agent, app_post, app_post_in, class_on, device_agent, device_info, device_post, device_post_in, interrupt_info, object_of, object_on, parent_order, period_of, pnp_post, queue_info, register_on, serves, stands_in, target_agent, target_info, when_on}
use Rattle.law_bare.specs.Lines.{bare_agent, bare_post, bare_when}
use Rattle.law_bare.proofs.Lists.{gathered_alike}
use Rattle.law_canonical.proofs.Numbers.{act_alike, handle_alike, name_alike, number_alike}
use Rattle.law_canonical.proofs.Scenes.{block_alike, effective_alike, effective_scope_alike, given_alike, has_given_alike, places_alike, undeclared, unplaced}

module _ (names : List Declaration) where
  abbrev bare_names : List Declaration
  bare_names = map undeclared names

  interrupt_alike : (order : ℕ) (n : List ℕ) (l : InterruptLevel) → interrupt_info bare_names order n l ≡ interrupt_info names order n l
  unfolding interrupt_info
  interrupt_alike order n l = rw (name_alike names n) refl

  target_alike : (order : ℕ) (n : List ℕ) (delay : ℕ) (status : Status) (depth : ℕ) → target_info bare_names order n delay status depth ≡ target_info names order n delay status depth
  unfolding target_info
  target_alike order n delay status depth = rw (name_alike names n) refl

  parent_alike : (parent : Option (List ℕ)) → parent_order bare_names parent ≡ parent_order names parent
  parent_alike None = refl
  parent_alike (Some n) = number_alike names n wanted.Parent

  pub register_alike : (p : Placed) (f : SceneLine) → register_on bare_names (unplaced p) f ≡ register_on names p f
  unfolding register_on
  register_alike p (line.Register n v) = rw (name_alike names n) refl
  register_alike p _ = refl

  pub when_alike : (number : ℕ) (device : Option ℕ) (f : SceneLine) → when_on bare_names 0 device f ≡ option_map bare_when (when_on names number device f)
  unfolding when_on
  when_alike number device (line.When access r a after) = rw (number_alike names r (wanted.RegisterOf device), act_alike names device a) refl
  when_alike number device _ = refl

  pub pnp_alike : (number : ℕ) (f : SceneLine) → pnp_post bare_names 0 f ≡ option_map bare_post (pnp_post names number f)
  unfolding pnp_post
  pnp_alike number (line.AtAsk tick ask d) = rw (handle_alike names d wanted.Device) refl
  pnp_alike number _ = refl

  app_post_alike : (number : ℕ) (f : SceneLine) → app_post bare_names 0 f ≡ option_map bare_post (app_post names number f)
  unfolding app_post
  app_post_alike number (line.AtRead tick d n) = rw (handle_alike names d wanted.Device) refl
  app_post_alike number (line.AtWrite tick d n) = rw (handle_alike names d wanted.Device) refl
  app_post_alike number (line.AtControl tick d code n) = rw (handle_alike names d wanted.Device) refl
  app_post_alike number (line.AtCancel tick k) = refl
  app_post_alike number _ = refl

  device_post_alike : (number : ℕ) (device : Option ℕ) (f : SceneLine) → device_post bare_names 0 device f ≡ option_map bare_post (device_post names number device f)
  unfolding device_post
  device_post_alike number device (line.At tick a) = rw (act_alike names device a) refl
  device_post_alike number device _ = refl

  cond_map : (b : Bool) (o : Option PostLine) → cond b (option_map bare_post o) None ≡ option_map bare_post (cond b o None)
  cond_map true o = refl
  cond_map false o = refl

  app_in_alike : (b : ℕ) (p : Placed) → app_post_in bare_names b (unplaced p) ≡ option_map bare_post (app_post_in names b p)
  app_in_alike b p = ap (λ o. cond (stands_in b p) o None) (app_post_alike p.number p.form) ∙ cond_map (stands_in b p) (app_post names p.number p.form)

  device_in_alike : (b : ℕ) (p : Placed) → device_post_in bare_names b (unplaced p) ≡ option_map bare_post (device_post_in names b p)
  device_in_alike b p =
      ap (λ o. cond (stands_in b p) o None) (device_post_alike p.number p.stand.device p.form) ∙ cond_map (stands_in b p) (device_post names p.number p.stand.device p.form)

  pub target_agent_alike : (f : SceneLine) → target_agent bare_names f ≡ option_map bare_agent (target_agent names f)
  unfolding target_agent
  target_agent_alike (line.Target n delay status depth) = rw (name_alike names n) refl
  target_agent_alike _ = refl

  module _ (s : Scene) where
    abbrev bare : Scene
    bare = without_numbers s

    device_alike : (b : ℕ) (n : List ℕ) (working : Bool) → device_info bare bare_names b n working ≡ device_info s names b n working
    unfolding device_info
    device_alike b n working = rw (name_alike names n, effective_scope_alike s b None, effective_alike s b None) refl

    serves_alike : (b : ℕ) → serves bare b ≡ serves s b
    unfolding serves
    serves_alike b = rw (has_given_alike s b attribute.Default, has_given_alike s b (attribute.For form.Read), has_given_alike s b (attribute.For form.Write), has_given_alike s b (attribute.For form.Control)) refl

    queue_alike : (device : Option ℕ) (order b : ℕ) (n : List ℕ) (dispatch : DispatchKind) → queue_info bare bare_names device order b n dispatch ≡ queue_info s names device order b n dispatch
    unfolding queue_info
    queue_alike device order b n dispatch =
        rw (name_alike names n, serves_alike b, has_given_alike s b attribute.PowerOff, has_given_alike s b attribute.Zero, effective_scope_alike s b device, effective_alike s b device) refl

    pub object_alike : (p : Placed) (b : ℕ) (f : SceneLine) → object_of bare bare_names (unplaced p) b f ≡ object_of s names p b f
    unfolding object_of
    object_alike p b (line.Device n working) = ap (λ d. Some (declared.Device d)) (device_alike b n working)
    object_alike p b (line.Queue n dispatch) = ap (λ d. Some (declared.Queue d)) (queue_alike p.stand.device p.counts.device b n dispatch)
    object_alike p b (line.Interrupt n l) = ap (λ d. Some (declared.Interrupt d)) (interrupt_alike p.counts.device n l)
    object_alike p b (line.Target n delay status depth) = ap (λ d. Some (declared.Target d)) (target_alike p.counts.device n delay status depth)
    object_alike p b _ = refl

    pub object_on_alike : (p : Placed) → object_on bare bare_names (unplaced p) ≡ object_on s names p
    object_on_alike p = object_alike p p.at p.form

    period_alike : (b : ℕ) → period_of bare b ≡ period_of s b
    unfolding period_of
    period_alike b =
        ap (λ o. unwrap_or (option_and_then ticks_in (option_and_then (form_at bare) o)) 0) (given_alike s b attribute.Period)
        ∙ ap (λ o. unwrap_or (option_and_then ticks_in o) 0) (block_alike s (given s b attribute.Period))

    pub class_alike : (p : Placed) (f : SceneLine) → class_on bare bare_names (unplaced p) f ≡ class_on s names p f
    unfolding class_on
    class_alike p (line.Class n k) = rw (name_alike names n) refl
    class_alike p (line.DeferredClass n k parent) = rw (name_alike names n, parent_alike parent, has_given_alike s p.at attribute.Serialize, period_alike p.at) refl
    class_alike p _ = refl

    app_posts_alike : (b : ℕ) → filter_map (app_post_in bare_names b) (placed bare) ≡ map bare_post (filter_map (app_post_in names b) (placed s))
    app_posts_alike b = ap (filter_map (app_post_in bare_names b)) (places_alike s) ∙ gathered_alike unplaced bare_post (app_post_in bare_names b) (app_post_in names b) (app_in_alike b) (placed s)

    device_posts_alike : (b : ℕ) → filter_map (device_post_in bare_names b) (placed bare) ≡ map bare_post (filter_map (device_post_in names b) (placed s))
    device_posts_alike b = ap (filter_map (device_post_in bare_names b)) (places_alike s) ∙ gathered_alike unplaced bare_post (device_post_in bare_names b) (device_post_in names b) (device_in_alike b) (placed s)

    pub app_agent_alike : (p : Placed) (f : SceneLine) → app_agent bare bare_names (unplaced p) f ≡ option_map bare_agent (app_agent s names p f)
    unfolding app_agent
    app_agent_alike p (line.App n) = ap (λ k. Some (agent k (filter_map (app_post_in bare_names p.at) (placed bare)))) (name_alike names n) ∙ ap (λ ps. Some (agent (name_number names n) ps)) (app_posts_alike p.at)
    app_agent_alike p _ = refl

    pub device_agent_alike : (p : Placed) (f : SceneLine) → device_agent bare bare_names (unplaced p) f ≡ option_map bare_agent (device_agent s names p f)
    unfolding device_agent
    device_agent_alike p (line.Device n working) =
        ap (λ k. Some (agent k (filter_map (device_post_in bare_names p.at) (placed bare)))) (name_alike names n) ∙ ap (λ ps. Some (agent (name_number names n) ps)) (device_posts_alike p.at)
    device_agent_alike p _ = refl
